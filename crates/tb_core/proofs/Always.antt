-- A command ends: it cannot be that none of its tests tells an ending.
use Rattle.std.proofs.Common.{◌≡◌, ℕ, suc, ◌+◌, ◌<◌, List, [], ◌∷◌, ◌++◌, length, Bool, true, false, cond, ◌&&◌, Some, Result, Ok, Err, refl, sym, ap, subst, arith, append_assoc}
use Rattle.std.specs.Prelude.{slice_get, bytes_eq, nat_eq}
use Rattle.std.specs.List.{AllByRecursion}
use Rattle.std.proofs.lemmas.Bool.{eqb-true}
use Rattle.tb_conllu.specs.Text.{BlockText}
use Rattle.tb_conllu.specs.Reported.{IsFile, IsReported}
use Rattle.tb_rules.specs.File.{IsValid, IsFaultAt}
use Rattle.tb_core.specs.declared.kinds.Event.{Event}
use Rattle.tb_core.specs.declared.kinds.State.{State}
use Rattle.tb_core.specs.declared.limits.Limits.{Limits}
use Rattle.tb_core.specs.declared.refusals.Refusal.{Refusal}
use Rattle.tb_core.specs.declared.refusals.Refusal.TheVariants.{NoSuchBatch, NoSuchSentence, Read, Rule, Empty, NotOne, SentIdChanged, TextChanged, NothingChanged, NameTaken, SentIdTaken, NotYours, OwnWork, Stale, Pulled, NotPulled}
use Rattle.tb_core.specs.Names.{is_name, Lacks}
use Rattle.tb_core.specs.Events.{Asker, anyone, the_worker, not_the_worker, event_row, leads_from, goes_to, makes_worker}
use Rattle.tb_core.specs.Deciding.{allowed, may_correct, then_current}
use Rattle.tb_core.specs.Machine.{sent_id_of, Batch, Machine, batch_with, state_in, rev}
use Rattle.tb_core.specs.Acts.{Act, importing, stepping, correcting, pulling, restoring, IsAllowed, after, names_of, ids_of, ids_in}
use Rattle.tb_core.specs.Commands.{Command, import_file, event_on, correct, pull, restore, Answer, replied, refused, Ending, ending, HasBatch, Means, reply_to}
use Rattle.tb_core.specs.Tests.{◌otherwise◌, reported, passed, Refuses, IsFirstTaken, Accepts}
use Rattle.tb_core.specs.Steps.{ImportEnds, EventEnds, CorrectEnds, PullEnds, RestoreEnds, Ends, Steps}
use Rattle.tb_core.proofs.Weights.{all_append}
use Rattle.tb_core.proofs.Lists.{map-joined}
use Rattle.tb_core.proofs.Chains.{good_name_of, good_user, second_good}
use Rattle.tb_core.proofs.Judging.{read_some, valid_some}

-- no ending is told
abbrev Unreported : (Ending → Type 0) → Type 0
Unreported p = (e : Ending) → p e → ⊥

first_none : (p q : Ending → Type 0) → Unreported (◌otherwise◌ p q) → Unreported p
first_none p q none e x = none e (reported x)

second_none : (p q : Ending → Type 0) → Unreported (◌otherwise◌ p q) → Unreported q
second_none p q none e y = none e (passed (first_none p q none) y)

-- a refusal that is not told
silent : (s : Machine) (test : Refusal → Type 0) → Unreported (Refuses s test) → (r : Refusal) → test r → ⊥
silent s test none r h = none (ending (refused r) s) (r, h, refl)

unaccepted : (s : Machine) (c : Command) → Unreported (Accepts s c) → (a : Act) → Means s c a → IsAllowed s a → ⊥
unaccepted s c none a means k = none (ending (replied (reply_to s a)) (after s a)) (a, means, k, refl)

-- ---- decisions that refuse nothing

abbrev done : {X : Type 0} → X → Result X Refusal
done x = Ok x

abbrev not_done : (X : Type 0) → Refusal → Result X Refusal
not_done X r = Err r

cond_ok : (X : Type 0) (t : Bool) (v : Result X Refusal) (e : Refusal) → ((r : Refusal) → cond t v (not_done X e) ≡ Err r → ⊥) → t ≡ true
cond_ok X true v e h = refl
cond_ok X false v e h = absurd (h e refl)

cond_err : (X : Type 0) (t : Bool) (v : Result X Refusal) (e : Refusal) → ((r : Refusal) → cond t (not_done X e) v ≡ Err r → ⊥) → t ≡ false
cond_err X true v e h = absurd (h e refl)
cond_err X false v e h = refl

allowed_ok : (X : Type 0) (k : Asker) (worker user : List ℕ) (x : X) → ((r : Refusal) → allowed k worker user x ≡ Err r → ⊥) → allowed k worker user x ≡ done x
allowed_ok X anyone worker user x h = refl
allowed_ok X the_worker worker user x h = ap (λ t. cond t (done x) (not_done X NotYours)) (cond_ok X (bytes_eq worker user) (done x) NotYours h)
allowed_ok X not_the_worker worker user x h = ap (λ t. cond t (not_done X OwnWork) (done x)) (cond_err X (bytes_eq worker user) (done x) OwnWork h)

decided_ok : (X : Type 0) (t : Bool) (k : Asker) (worker user : List ℕ) (x : X) (e : Refusal) → ((r : Refusal) → cond t (allowed k worker user x) (not_done X e) ≡ Err r → ⊥) → cond t (allowed k worker user x) (not_done X e) ≡ done x
decided_ok X true k worker user x e h = allowed_ok X k worker user x h
decided_ok X false k worker user x e h = absurd (h e refl)

then_ok : (v : Result (Unit {0}) Refusal) (base current : ℕ) → ((r : Refusal) → then_current v base current ≡ Err r → ⊥) → (v ≡ done tt) × (base ≡ current)
then_ok (Ok u) base current h = (refl, eqb-true base current (cond_ok (Unit {0}) (nat_eq base current) (done tt) (Stale current) h))
then_ok (Err e) base current h = absurd (h e refl)

pull_ok : (t p : Bool) (e : Refusal) → ((r : Refusal) → cond t (not_done (Unit {0}) e) (cond p (not_done (Unit {0}) Pulled) (done tt)) ≡ Err r → ⊥) → cond t (not_done (Unit {0}) e) (cond p (not_done (Unit {0}) Pulled) (done tt)) ≡ done tt
pull_ok true p e h = absurd (h e refl)
pull_ok false true e h = absurd (h Pulled refl)
pull_ok false false e h = refl

restore_ok : (t p : Bool) (e : Refusal) (s : State) → ((r : Refusal) → cond t (not_done State e) (cond p (done s) (not_done State NotPulled)) ≡ Err r → ⊥) → cond t (not_done State e) (cond p (done s) (not_done State NotPulled)) ≡ done s
restore_ok true p e s h = absurd (h e refl)
restore_ok false true e s h = refl
restore_ok false false e s h = absurd (h NotPulled refl)

-- ---- what stands

no_batch_lacks : (bs : List Batch) (name : List ℕ) → ((place : ℕ) (b : Batch) → slice_get bs place ≡ Some b → b.name ≡ name → ⊥) → Lacks (names_of bs) name
no_batch_lacks [] name none = tt
no_batch_lacks (b ∷ bs) name none = (λ e. none 0 b refl (sym e), no_batch_lacks bs name (λ place c there named. none (suc place) c there named))

free_from : (ids : List (List ℕ)) (before rest : List BlockText) → AllByRecursion (Lacks ids) (ids_in before) → ((k : ℕ) → IsFirstTaken ids (before ++ rest) k → ⊥) → (AllByRecursion (Lacks ids) (ids_in rest) → ⊥) → ⊥
free_from ids before [] free none unless = unless tt
free_from ids before (b ∷ rest) free none unless =
    let joined = sym (append_assoc before (b ∷ []) rest) in
    let on = λ (l : Lacks ids (sent_id_of b)).
    let more = subst (AllByRecursion (Lacks ids)) (sym (map-joined sent_id_of before (b ∷ []))) (all_append (Lacks ids) (ids_in before) (ids_in (b ∷ [])) free (l, tt)) in
    free_from ids (before ++ b ∷ []) rest more (subst (λ bs. (k : ℕ) → IsFirstTaken ids bs k → ⊥) joined none) (λ others. unless (l, others)) in
    none (length before + 1) (record { before = before; body = b; more = rest; whole = refl; counted = refl; free = free; taken = on })

some_length : (bs : List BlockText) → (bs ≡ [] → ⊥) → 0 < length bs
some_length [] h = absurd (h refl)
some_length (b ∷ bs) h = omega arith

-- ---- bodies that no test refuses

-- a body without a fault is a valid file
file_some : (body : List ℕ) → ((line code : ℕ) → IsReported body line code → ⊥) → ((bs : List BlockText) (sentence rule row : ℕ) → IsFile body bs → IsFaultAt bs sentence rule row → ⊥)
    → ((bs : List BlockText) → IsFile body bs → IsValid bs → ⊥) → ⊥
file_some body read rules unless = read_some body read (λ bs file. valid_some bs (λ sentence rule row fault. rules bs sentence rule row file fault) (λ valid. unless bs file valid))

abbrev OneBody : List ℕ → Type 0
OneBody body = ((b : BlockText) → IsFile body (b ∷ []) → IsValid (b ∷ []) → ⊥) → ⊥

one_body : (body : List ℕ) (bs : List BlockText) → (IsFile body [] → ⊥) → ((a b : BlockText) (more : List BlockText) → IsFile body (a ∷ b ∷ more) → ⊥) → IsFile body bs → IsValid bs → OneBody body
one_body body [] empty many file valid = λ unless. empty file
one_body body (b ∷ []) empty many file valid = λ unless. unless b file valid
one_body body (a ∷ b ∷ more) empty many file valid = λ unless. many a b more file

-- ---- each command

import_some : (l : Limits) (s : Machine) (name user body : List ℕ) → Unreported (ImportEnds l s name user body) → ⊥
import_some l s name user body m0 =
    let good = good_name_of s (is_name name && is_name user) (first_none _ _ m0) in
    let m1 = second_none _ _ m0 in
    let m2 = second_none _ _ m1 in
    let m3 = second_none _ _ m2 in
    let m4 = second_none _ _ m3 in
    let m5 = second_none _ _ m4 in
    let m6 = second_none _ _ m5 in
    let m7 = second_none _ _ m6 in
    let accept = unaccepted s (import_file name user body) (second_none _ _ m7) in
    file_some body (λ line code h. silent s _ (first_none _ _ m2) (Read line code) (line, code, h, refl))
    (λ bs sentence rule row file h. silent s _ (first_none _ _ m3) (Rule sentence rule row) (bs, sentence, rule, row, file, h, refl))
    (λ bs file valid.
    silent s _ (first_none _ _ m5) NameTaken (
      λ new.
          free_from (ids_of s.sentences) [] bs tt (λ k h. silent s _ (first_none _ _ m6) (SentIdTaken k) (bs, k, file, h, refl)) (λ free.
          accept (importing name user bs) (bs, file, refl) (record {
            named = good_user (is_name name) (is_name user) good;
            by = second_good (is_name name) (is_name user) good;
            some = some_length bs (λ e. silent s _ (first_none _ _ m4) Empty (subst (λ cs. IsFile body cs) e file, refl));
            shaped = file.shaped;
            valid = valid;
            new = new;
            free = free;
          })),
      refl,
    ))

event_some : (l : Limits) (s : Machine) (name : List ℕ) (event : Event) (user : List ℕ) → Unreported (EventEnds l s name event user) → ⊥
event_some l s name event user m0 =
    let good = good_name_of s (is_name name && is_name user) (first_none _ _ m0) in
    let m1 = second_none _ _ m0 in
    let m2 = second_none _ _ m1 in
    let m3 = second_none _ _ m2 in
    let accept = unaccepted s (event_on name event user) (second_none _ _ m3) in
    silent s _ (first_none _ _ m1) NoSuchBatch (
      no_batch_lacks s.batches name (λ place b there named.
          let has : HasBatch s name place b = record { there = there; named = named } in
          let decided = decided_ok _ (leads_from event b.state) (event_row event).asker b.worker user (goes_to event, makes_worker event) _ (λ r h. silent s _ (first_none _ _ m2) r (place, b, has, h)) in
          accept (stepping place event user) (place, b, has, refl) (record { by = second_good (is_name name) (is_name user) good; batch = b; there = there; decided = decided })),
      refl,
    )

correct_some : (l : Limits) (s : Machine) (n base : ℕ) (user body : List ℕ) → Unreported (CorrectEnds l s n base user body) → ⊥
correct_some l s n base user body m0 =
    let good = good_name_of s (is_name user) (first_none _ _ m0) in
    let m1 = second_none _ _ m0 in
    let m2 = second_none _ _ m1 in
    let m3 = second_none _ _ m2 in
    let m4 = second_none _ _ m3 in
    let m5 = second_none _ _ m4 in
    let m6 = second_none _ _ m5 in
    let m7 = second_none _ _ m6 in
    let m8 = second_none _ _ m7 in
    let m9 = second_none _ _ m8 in
    let m10 = second_none _ _ m9 in
    let m11 = second_none _ _ m10 in
    let accept = unaccepted s (correct n base user body) (second_none _ _ m11) in
    silent s _ (first_none _ _ m1) NoSuchSentence (
      λ place x has.
          let decided = then_ok (may_correct (state_in s.batches x) (batch_with s.batches x.batch).worker user) base (rev x) (λ r h. silent s _ (first_none _ _ m3) r (place, x, has, h)) in
          file_some body (λ line code h. silent s _ (first_none _ _ m4) (Read line code) (line, code, h, refl))
          (λ bs sentence rule row file h. silent s _ (first_none _ _ m5) (Rule sentence rule row) (bs, sentence, rule, row, file, h, refl))
          (λ bs file valid. one_body body bs (λ h. silent s _ (first_none _ _ m6) Empty (h, refl)) (λ a b more h. silent s _ (first_none _ _ m7) NotOne (a, b, more, h, refl)) file valid (λ b alone lawful.
          silent s _ (first_none _ _ m8) SentIdChanged (
            (
              place,
              x,
              b,
              has,
              alone,
              λ same_id.
                  silent s _ (first_none _ _ m9) TextChanged (
                    (
                      place,
                      x,
                      b,
                      has,
                      alone,
                      λ same_text.
                          accept (correcting place user b) (place, x, b, has, decided.1, alone, refl) (record {
                            by = good;
                            sentence = x;
                            there = has.there;
                            decided = decided.0;
                            lawful = record { shaped = alone.shaped.0; rules = lawful.rules.0 };
                            same_id = same_id;
                            same_text = same_text;
                            new = λ h. silent s _ (first_none _ _ m10) NothingChanged ((place, x, b, has, alone, h), refl);
                          }),
                    ),
                    refl,
                  ),
            ),
            refl,
          ))),
      refl,
    )

pull_some : (l : Limits) (s : Machine) (n : ℕ) (user : List ℕ) → Unreported (PullEnds l s n user) → ⊥
pull_some l s n user m0 =
    let good = good_name_of s (is_name user) (first_none _ _ m0) in
    let m1 = second_none _ _ m0 in
    let m2 = second_none _ _ m1 in
    let m3 = second_none _ _ m2 in
    let accept = unaccepted s (pull n user) (second_none _ _ m3) in
    silent s _ (first_none _ _ m1) NoSuchSentence (
      λ place x has.
          accept (pulling place user) (place, x, has, refl)
          (record { by = good; sentence = x; there = has.there; decided = pull_ok _ x.pulled _ (λ r h. silent s _ (first_none _ _ m2) r (place, x, has, h)) }),
      refl,
    )

restore_some : (l : Limits) (s : Machine) (n : ℕ) (user : List ℕ) → Unreported (RestoreEnds l s n user) → ⊥
restore_some l s n user m0 =
    let good = good_name_of s (is_name user) (first_none _ _ m0) in
    let m1 = second_none _ _ m0 in
    let m2 = second_none _ _ m1 in
    let m3 = second_none _ _ m2 in
    let accept = unaccepted s (restore n user) (second_none _ _ m3) in
    silent s _ (first_none _ _ m1) NoSuchSentence (
      λ place x has.
          accept (restoring place user) (place, x, has, refl)
          (record { by = good; sentence = x; there = has.there; decided = restore_ok _ x.pulled _ (batch_with s.batches x.batch).state (λ r h. silent s _ (first_none _ _ m2) r (place, x, has, h)) }),
      refl,
    )

ends_some : (l : Limits) (s : Machine) (c : Command) → Unreported (Ends l s c) → ⊥
ends_some l s (import_file name user body) none = import_some l s name user body none
ends_some l s (event_on name event user) none = event_some l s name event user none
ends_some l s (correct n base user body) none = correct_some l s n base user body none
ends_some l s (pull n user) none = pull_some l s n user none
ends_some l s (restore n user) none = restore_some l s n user none

pub steps_some : (l : Limits) (s : Machine) (c : Command) → ((a : Answer) (t : Machine) → Steps l s c a t → ⊥) → ⊥
steps_some l s c none = ends_some l s c (λ e h. none e.answer e.state h)
