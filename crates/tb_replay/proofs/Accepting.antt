-- Each act that may be done is the accepted ending of a command, and each command that changes the state is an act.
use Rattle.std.proofs.Common.{◌≡◌, ◌⊎◌, inl, inr, ℕ, zero, suc, ◌+◌, ◌≤◌, List, [], ◌∷◌, ◌++◌, length, Bool, true, false, ◌&&◌, None, Some, Result, Ok, Err, refl, sym, ◌∙◌, ap, subst, arith, length-append}
use Rattle.std.specs.Prelude.{cond, slice_get, nat_le}
use Rattle.std.specs.List.{AllByRecursion}
use Rattle.std.proofs.lemmas.List.{length-map}
use Rattle.std.proofs.lemmas.Bool.{eq-eqb}
use Rattle.std.proofs.lemmas.Bool.Decides.{nat_tests}
use Rattle.tb_conllu.specs.Text.{BlockText, text_of}
use Rattle.tb_conllu.specs.Reported.{IsFile, IsNoFile, IsReported}
use Rattle.tb_rules.specs.File.{IsValid, IsFaultAt}
use Rattle.tb_core.specs.declared.kinds.Event.{Event}
use Rattle.tb_core.specs.declared.limits.Limits.{Limits}
use Rattle.tb_core.specs.declared.refusals.Refusal.{Refusal}
use Rattle.tb_core.specs.declared.refusals.Refusal.TheVariants.{Full, Stale}
use Rattle.tb_core.specs.Names.{is_name, Lacks, AreApart}
use Rattle.tb_core.specs.Deciding.{event_decision, may_correct, then_current, correct_decision, pull_decision, restore_decision}
use Rattle.tb_core.specs.Events.{goes_to, makes_worker}
use Rattle.tb_core.specs.Machine.{sent_id_of, text_value_of, Batch, Sentence, Machine, batch_with, state_in, rev}
use Rattle.tb_core.specs.Acts.{Act, importing, stepping, correcting, pulling, restoring, MayImport, MayStep, MayCorrect, MayPull, MayRestore, IsAllowed, after, move_of, names_of, ids_of, ids_in, new_sentence, new_sentences, corrected, flagged}
use Rattle.tb_core.specs.Reaching.{Reached, begun, further, has_room}
use Rattle.tb_core.specs.Keeping.{IsWell}
use Rattle.tb_core.specs.Commands.{Command, import_file, event_on, correct, pull, restore, Answer, replied, refused, Ending, ending, HasBatch, HasSentence, Means, reply_to}
use Rattle.tb_core.specs.Tests.{passed, Refuses, IsFirstTaken, IsFull}
use Rattle.tb_core.specs.Steps.{Steps}
use Rattle.tb_core.proofs.Lists.{head_is, get_one}
use Rattle.tb_core.proofs.Keeps.{well}
use Rattle.tb_core.proofs.Same.{IsOneList}
use Rattle.tb_core.proofs.ReadsBack.{valid_alone, file_alone}
use Rattle.tb_core.proofs.Again.{same_place}
use Rattle.tb_core.proofs.Weights.{length-changed}
use Rattle.tb_core.proofs.Chains.{both_true, good_user, second_good, not_bad_name, Outcome, stays, goes, outcome}
use Rattle.tb_replay.specs.Commanded.{MayBeDone, IsAccepted, Did, IsCommanded, at_first, one_more, IsReachedWithin}

-- what is known of bodies
pub record Bodies : Type 0 where
  pub one_list : IsOneList
  pub no_file : (f : List ℕ) (line code : ℕ) → IsReported f line code → IsNoFile f
  pub sound : (bs : List BlockText) (sentence rule row : ℕ) → IsFaultAt bs sentence rule row → IsValid bs → ⊥

-- ---- tests that tell nothing

none_reported : (s : Machine) (test : Refusal → Type 0) → ((r : Refusal) → test r → ⊥) → (d : Ending) → Refuses s test d → ⊥
none_reported s test none d h = none h.0 h.1

not_full : (l : Limits) (s : Machine) (c : Command) (a : Act) → has_room l s a ≡ true → ((b : Act) → Means s c b → b ≡ a) → (r : Refusal) → IsFull l s c r → ⊥
not_full l s c a room once r h = let no_room : true ≡ false = sym room ∙ (ap (λ b. has_room l s b) (sym (once h.0 h.1)) ∙ h.2) in absurd (cc)

no_err : {X : Type 0} (v : Result X Refusal) (x : X) (r : Refusal) → v ≡ Ok x → v ≡ Err r → ⊥
no_err v x r e f = let d : Ok x ≡ Err r = sym e ∙ f in absurd (cc)

-- ---- what stands is found at one place

lacks_at : (bs : List Batch) (name : List ℕ) (j : ℕ) (c : Batch) → Lacks (names_of bs) name → slice_get bs j ≡ Some c → name ≡ c.name → ⊥
lacks_at [] name j c h e same = let d : None ≡ Some c = e in absurd (cc)
lacks_at (b ∷ bs) name zero c h e same = let one : b ≡ c = let d : Some b ≡ Some c = e in cc in h.0 (same ∙ ap (λ (x : Batch). x.name) (sym one))
lacks_at (b ∷ bs) name (suc j) c h e same = lacks_at bs name j c h.1 e same

one_place : (bs : List Batch) (i j : ℕ) (b c : Batch) → AreApart (names_of bs) → slice_get bs i ≡ Some b → slice_get bs j ≡ Some c → b.name ≡ c.name → i ≡ j
one_place [] i j b c h e f same = let d : None ≡ Some b = e in absurd (cc)
one_place (x ∷ xs) zero zero b c h e f same = refl
one_place (x ∷ xs) zero (suc j) b c h e f same =
    let one : x ≡ b = let d : Some x ≡ Some b = e in cc in
    absurd (lacks_at xs x.name j c h.0 f (ap (λ (y : Batch). y.name) one ∙ same))
one_place (x ∷ xs) (suc i) zero b c h e f same =
    let one : x ≡ c = let d : Some x ≡ Some c = f in cc in
    absurd (lacks_at xs x.name i b h.0 e (ap (λ (y : Batch). y.name) one ∙ sym same))
one_place (x ∷ xs) (suc i) (suc j) b c h e f same = ap suc (one_place xs i j b c h.1 e f same)

batch_place : (s : Machine) (name : List ℕ) (i j : ℕ) (b c : Batch) → IsWell s → HasBatch s name i b → HasBatch s name j c → i ≡ j
batch_place s name i j b c w x y = one_place s.batches i j b c w.names x.there y.there (x.named ∙ sym y.named)

batch_once : (s : Machine) (name : List ℕ) (i j : ℕ) (b c : Batch) → IsWell s → HasBatch s name i b → HasBatch s name j c → b ≡ c
batch_once s name i j b c w x y = get_one s.batches j b c (subst (λ k. slice_get s.batches k ≡ Some b) (batch_place s name i j b c w x y) x.there) y.there

sentence_once : (s : Machine) (n i j : ℕ) (x y : Sentence) → HasSentence s n i x → HasSentence s n j y → x ≡ y
sentence_once s n i j x y h k = get_one s.sentences j x y (subst (λ m. slice_get s.sentences m ≡ Some x) (same_place n i j h.counted k.counted) h.there) k.there

named_at : (bs : List Batch) (i : ℕ) (b : Batch) → AllByRecursion (λ (c : Batch). is_name c.name ≡ true) bs → slice_get bs i ≡ Some b → is_name b.name ≡ true
named_at [] i b h e = let d : None ≡ Some b = e in absurd (cc)
named_at (c ∷ bs) zero b h e = let one : c ≡ b = let d : Some c ≡ Some b = e in cc in subst (λ (x : Batch). is_name x.name ≡ true) one h.0
named_at (c ∷ bs) (suc i) b h e = named_at bs i b h.1 e

free_at : (ids : List (List ℕ)) (before : List BlockText) (b : BlockText) (more : List BlockText) → AllByRecursion (Lacks ids) (ids_in (before ++ b ∷ more)) → Lacks ids (sent_id_of b)
free_at ids [] b more h = h.0
free_at ids (c ∷ before) b more h = free_at ids before b more h.1

none_taken : (ids : List (List ℕ)) (bs : List BlockText) (n : ℕ) → AllByRecursion (Lacks ids) (ids_in bs) → IsFirstTaken ids bs n → ⊥
none_taken ids bs n free h = h.taken (free_at ids h.before h.body h.more (subst (λ cs. AllByRecursion (Lacks ids) (ids_in cs)) h.whole free))

means_once : IsOneList → (s : Machine) (c : Command) → IsWell s → (a b : Act) → Means s c a → Means s c b → a ≡ b
means_once k s (import_file name user body) w a b x y = x.2 ∙ (ap (λ bs. importing name user bs) (k body x.0 y.0 x.1 y.1) ∙ sym y.2)
means_once k s (event_on name event user) w a b x y = x.3 ∙ (ap (λ i. stepping i event user) (batch_place s name x.0 y.0 x.1 y.1 w x.2 y.2) ∙ sym y.3)
means_once k s (correct n base user body) w a b x y =
    let place = same_place n x.0 y.0 x.3.counted y.3.counted in
    let one = head_is x.2 y.2 [] [] (k body (x.2 ∷ []) (y.2 ∷ []) x.5 y.5) in
    x.6 ∙ (ap (λ i. correcting i user x.2) place ∙ (ap (λ z. correcting y.0 user z) one ∙ sym y.6))
means_once k s (pull n user) w a b x y = x.3 ∙ (ap (λ i. pulling i user) (same_place n x.0 y.0 x.2.counted y.2.counted) ∙ sym y.3)
means_once k s (restore n user) w a b x y = x.3 ∙ (ap (λ i. restoring i user) (same_place n x.0 y.0 x.2.counted y.2.counted) ∙ sym y.3)

-- ---- each act is accepted as a command

abbrev Accepted : Limits → Machine → Act → Type 0
Accepted l s a = (c : Command) × IsAccepted l s c a

import_accepted : Bodies → (l : Limits) (s : Machine) (name user : List ℕ) (bs : List BlockText) → IsWell s → MayImport s name user bs → has_room l s (importing name user bs) ≡ true
    → Accepted l s (importing name user bs)
import_accepted k l s name user bs w may room =
    let body = text_of bs in
    let file : IsFile body bs = record { shaped = may.shaped; text = refl } in
    let c = import_file name user body in
    let a = importing name user bs in
    let means : Means s c a = (bs, file, refl) in (
      c,
      (
        means,
        passed (not_bad_name s (is_name name && is_name user) (both_true (is_name name) (is_name user) may.named may.by))
            (passed (λ d h. lacks_at s.batches name h.0 h.1 may.new h.2.there (sym h.2.named))
            (passed (none_reported s _ (λ r h. k.no_file body h.0 h.1 h.2 bs may.shaped refl))
            (passed (none_reported s _ (λ r h. k.sound bs h.1 h.2 h.3 (subst (λ cs. IsFaultAt cs h.1 h.2 h.3) (k.one_list body h.0 bs h.4 file) h.5) may.valid))
            (passed (none_reported s _ (λ r h. let e = ap length (k.one_list body [] bs h.0 file) in let some = may.some in absurd (omega (arith, e, some))))
            (passed (none_reported s _ (λ r h. h.0 may.new))
            (passed (none_reported s _ (λ r h. none_taken (ids_of s.sentences) bs h.1 may.free (subst (λ cs. IsFirstTaken (ids_of s.sentences) cs h.1) (k.one_list body h.0 bs h.2 file) h.3)))
            (passed (none_reported s _ (not_full l s c a room (λ b h. means_once k.one_list s c w b a h means)))
            (a, means, may, refl)))))))),
      ),
    )

event_accepted : Bodies → (l : Limits) (s : Machine) (place : ℕ) (event : Event) (user : List ℕ) → IsWell s → MayStep s place event user → has_room l s (stepping place event user) ≡ true
    → Accepted l s (stepping place event user)
event_accepted k l s place event user w may room =
    let name = may.batch.name in
    let has : HasBatch s name place may.batch = record { there = may.there; named = refl } in
    let c = event_on name event user in
    let a = stepping place event user in
    let means : Means s c a = (place, may.batch, has, refl) in (
      c,
      (
        means,
        passed (not_bad_name s (is_name name && is_name user) (both_true (is_name name) (is_name user) (named_at s.batches place may.batch w.named may.there) may.by))
            (passed (none_reported s _ (λ r h. lacks_at s.batches name place may.batch h.0 may.there refl))
            (passed (none_reported s _ (λ r h. no_err (event_decision may.batch.state may.batch.worker event user) (goes_to event, makes_worker event) r may.decided
            (subst (λ (b : Batch). event_decision b.state b.worker event user ≡ Err r) (batch_once s name h.0 place h.1 may.batch w h.2 has) h.3)))
            (passed (none_reported s _ (not_full l s c a room (λ b h. means_once k.one_list s c w b a h means)))
            (a, means, may, refl)))),
      ),
    )

still_right : (v : Result (Unit {0}) Refusal) (n : ℕ) → v ≡ Ok tt → then_current v n n ≡ Ok tt
still_right v n e = ap (λ u. then_current u n n) e ∙ ap (λ t. cond t (Ok tt) (Err (Stale n))) (eq-eqb n n refl)

correct_accepted : Bodies → (l : Limits) (s : Machine) (place : ℕ) (user : List ℕ) (body : BlockText) → IsWell s → MayCorrect s place user body → has_room l s (correcting place user body) ≡ true
    → Accepted l s (correcting place user body)
correct_accepted k l s place user b w may room =
    let x = may.sentence in
    let n = place + 1 in
    let base = rev x in
    let body = text_of (b ∷ []) in
    let file = file_alone b may.lawful in
    let has : HasSentence s n place x = record { counted = refl; there = may.there } in
    let c = correct n base user body in
    let a = correcting place user b in
    let means : Means s c a = (place, x, b, has, refl, file, refl) in
    let here = λ (i : ℕ) (y : Sentence) (h : HasSentence s n i y). sentence_once s n i place y x h has in
    let same = λ (d : BlockText) (f : IsFile body (d ∷ [])). head_is d b [] [] (k.one_list body (d ∷ []) (b ∷ []) f file) in (
      c,
      (
        means,
        passed (not_bad_name s (is_name user) may.by)
            (passed (none_reported s _ (λ r h. h.0 place x has))
            (passed (λ d h. let e = ap rev (here h.0 h.1 h.2) in let more = h.4 in absurd (omega (arith, e, more)))
            (passed (none_reported s _ (λ r h. no_err (correct_decision (state_in s.batches x) (batch_with s.batches x.batch).worker user base (rev x)) tt r
            (still_right (may_correct (state_in s.batches x) (batch_with s.batches x.batch).worker user) base may.decided)
            (subst (λ (y : Sentence). correct_decision (state_in s.batches y) (batch_with s.batches y.batch).worker user base (rev y) ≡ Err r) (here h.0 h.1 h.2) h.3)))
            (passed (none_reported s _ (λ r h. k.no_file body h.0 h.1 h.2 (b ∷ []) file.shaped file.text))
            (passed (none_reported s _ (λ r h. k.sound (b ∷ []) h.1 h.2 h.3 (subst (λ cs. IsFaultAt cs h.1 h.2 h.3) (k.one_list body h.0 (b ∷ []) h.4 file) h.5) (valid_alone b may.lawful)))
            (passed (none_reported s _ (λ r h. let e = ap length (k.one_list body [] (b ∷ []) h.0 file) in absurd (omega (arith, e))))
            (passed (none_reported s _ (λ r h. let e = ap length (k.one_list body (h.0 ∷ h.1 ∷ h.2) (b ∷ []) h.3 file) in absurd (omega (arith, e))))
            (passed (none_reported s _ (λ r h. h.0.5 (ap sent_id_of (same h.0.2 h.0.4) ∙ (may.same_id ∙ ap (λ (y : Sentence). y.sent_id) (sym (here h.0.0 h.0.1 h.0.3))))))
            (passed (none_reported s _ (λ r h. h.0.5 (ap text_value_of (same h.0.2 h.0.4) ∙ (may.same_text ∙ ap (λ (y : Sentence). text_value_of y.current.body) (sym (here h.0.0 h.0.1 h.0.3))))))
            (passed (none_reported s _ (λ r h. may.new (sym (same h.0.2 h.0.4) ∙ (h.0.5 ∙ ap (λ (y : Sentence). y.current.body) (here h.0.0 h.0.1 h.0.3)))))
            (passed (none_reported s _ (not_full l s c a room (λ b h. means_once k.one_list s c w b a h means)))
            (a, means, may, refl)))))))))))),
      ),
    )

pull_accepted : Bodies → (l : Limits) (s : Machine) (place : ℕ) (user : List ℕ) → IsWell s → MayPull s place user → has_room l s (pulling place user) ≡ true → Accepted l s (pulling place user)
pull_accepted k l s place user w may room =
    let x = may.sentence in
    let n = place + 1 in
    let has : HasSentence s n place x = record { counted = refl; there = may.there } in
    let c = pull n user in
    let a = pulling place user in
    let means : Means s c a = (place, x, has, refl) in (
      c,
      (
        means,
        passed (not_bad_name s (is_name user) may.by)
            (passed (none_reported s _ (λ r h. h.0 place x has))
            (passed (none_reported s _ (λ r h. no_err (pull_decision (batch_with s.batches x.batch).state x.pulled) tt r may.decided
            (subst (λ (y : Sentence). pull_decision (batch_with s.batches y.batch).state y.pulled ≡ Err r) (sentence_once s n h.0 place h.1 x h.2 has) h.3)))
            (passed (none_reported s _ (not_full l s c a room (λ b h. means_once k.one_list s c w b a h means)))
            (a, means, may, refl)))),
      ),
    )

restore_accepted : Bodies → (l : Limits) (s : Machine) (place : ℕ) (user : List ℕ) → IsWell s → MayRestore s place user → has_room l s (restoring place user) ≡ true → Accepted l s (restoring place user)
restore_accepted k l s place user w may room =
    let x = may.sentence in
    let n = place + 1 in
    let has : HasSentence s n place x = record { counted = refl; there = may.there } in
    let c = restore n user in
    let a = restoring place user in
    let means : Means s c a = (place, x, has, refl) in (
      c,
      (
        means,
        passed (not_bad_name s (is_name user) may.by)
            (passed (none_reported s _ (λ r h. h.0 place x has))
            (passed (none_reported s _ (λ r h. no_err (restore_decision (batch_with s.batches x.batch).state x.pulled) (batch_with s.batches x.batch).state r may.decided
            (subst (λ (y : Sentence). restore_decision (batch_with s.batches y.batch).state y.pulled ≡ Err r) (sentence_once s n h.0 place h.1 x h.2 has) h.3)))
            (passed (none_reported s _ (not_full l s c a room (λ b h. means_once k.one_list s c w b a h means)))
            (a, means, may, refl)))),
      ),
    )

accepted : Bodies → (l : Limits) (s : Machine) (a : Act) → IsWell s → IsAllowed s a → has_room l s a ≡ true → Accepted l s a
accepted k l s (importing name user bs) w may room = import_accepted k l s name user bs w may room
accepted k l s (stepping place event user) w may room = event_accepted k l s place event user w may room
accepted k l s (correcting place user body) w may room = correct_accepted k l s place user body w may room
accepted k l s (pulling place user) w may room = pull_accepted k l s place user w may room
accepted k l s (restoring place user) w may room = restore_accepted k l s place user w may room

-- ---- a command that changes the state is an act

room_of : (l : Limits) (s : Machine) (c : Command) (a : Act) (b : Bool) → b ≡ has_room l s a → Means s c a → ((d : Ending) → Refuses s (IsFull l s c) d → ⊥) → has_room l s a ≡ true
room_of l s c a true e means none = sym e
room_of l s c a false e means none = absurd (none (ending (refused Full) s) (Full, (a, means, sym e, refl), refl))

did : (l : Limits) (s t : Machine) (c : Command) (r : Answer) → Outcome l s c (ending r t) → (t ≡ s) ⊎ ((a : Act) × Did l s c r t a)
did l s t c r (stays h) = inl h
did l s t c r (goes k none) =
    inr (k.0, ((k.2, room_of l s c k.0 (has_room l s k.0) refl k.1 none), k.1, ap (λ (e : Ending). e.answer) k.3, ap (λ (e : Ending). e.state) k.3))

pub command_did : (l : Limits) (s t : Machine) (c : Command) (r : Answer) → Steps l s c r t → (t ≡ s) ⊎ ((a : Act) × Did l s c r t a)
command_did l s t c r h = did l s t c r (outcome l s c (ending r t) h)

moves_after : (s : Machine) (a : Act) → length (after s a).moves ≡ length s.moves + 1
moves_after s a = length-append s.moves (move_of s a ∷ [])

was_allowed : IsOneList → (l : Limits) (s : Machine) (c : Command) (a : Act) → IsWell s → Means s c a → (after s a ≡ s) ⊎ ((b : Act) × Did l s c (replied (reply_to s a)) (after s a) b) → MayBeDone l s a
was_allowed one l s c a w means (inl same) = let n = moves_after s a in let m = ap (λ (t : Machine). length t.moves) same in absurd (omega (arith, n, m))
was_allowed one l s c a w means (inr h) = subst (λ b. MayBeDone l s b) (means_once one s c w h.0 a h.1.1 means) h.1.0

pub act_is_command : Bodies → (l : Limits) (s : Machine) (a : Act) → Reached s → MayBeDone l s a → Accepted l s a
act_is_command k l s a r may = accepted k l s a (well s r) may.0 may.1

pub command_is_act : IsOneList → (l : Limits) (s : Machine) (a : Act) → Reached s → Accepted l s a → MayBeDone l s a
command_is_act one l s a r h = was_allowed one l s h.0 a (well s r) h.1.0 (command_did l s (after s a) h.0 (replied (reply_to s a)) h.1.1)

-- ---- reached states

le_of : (a b : ℕ) → nat_le a b ≡ true → a ≤ b
le_of a b h = grind (arith, nat_tests)

of_le : (a b : ℕ) → a ≤ b → nat_le a b ≡ true
of_le a b h = grind (arith, nat_tests)

moves_fit : (l : Limits) (s : Machine) (a : Act) → has_room l s a ≡ true → length s.moves + 1 ≤ l.moves
moves_fit l s (importing name user bodies) h = le_of (length s.moves + 1) l.moves (second_good (nat_le (length s.sentences + length bodies) l.sentences) (nat_le (length s.moves + 1) l.moves) h)
moves_fit l s (stepping place event user) h = le_of (length s.moves + 1) l.moves h
moves_fit l s (correcting place user body) h = le_of (length s.moves + 1) l.moves h
moves_fit l s (pulling place user) h = le_of (length s.moves + 1) l.moves h
moves_fit l s (restoring place user) h = le_of (length s.moves + 1) l.moves h

imported_count : (s : Machine) (name user : List ℕ) (bodies : List BlockText) → length (after s (importing name user bodies)).sentences ≡ length s.sentences + length bodies
imported_count s name user bodies =
    let size = length-append s.sentences (new_sentences (length s.batches + 1) user bodies) in
    let news = length-map bodies (new_sentence (length s.batches + 1) user) in
    omega (arith, size, news)

sentences_fit : (l : Limits) (s : Machine) (a : Act) → length s.sentences ≤ l.sentences → has_room l s a ≡ true → length (after s a).sentences ≤ l.sentences
sentences_fit l s (importing name user bodies) old h =
    let fits = le_of (length s.sentences + length bodies) l.sentences (good_user (nat_le (length s.sentences + length bodies) l.sentences) (nat_le (length s.moves + 1) l.moves) h) in
    let size = imported_count s name user bodies in
    omega (arith, fits, size)
sentences_fit l s (stepping place event user) old h = old
sentences_fit l s (correcting place user body) old h = let e = length-changed (corrected user body) s.sentences place in omega (arith, e, old)
sentences_fit l s (pulling place user) old h = let e = length-changed (flagged true) s.sentences place in omega (arith, e, old)
sentences_fit l s (restoring place user) old h = let e = length-changed (flagged false) s.sentences place in omega (arith, e, old)

sentences_grow : (s : Machine) (a : Act) → length s.sentences ≤ length (after s a).sentences
sentences_grow s (importing name user bodies) = let size = imported_count s name user bodies in omega (arith, size)
sentences_grow s (stepping place event user) = omega arith
sentences_grow s (correcting place user body) = let e = length-changed (corrected user body) s.sentences place in omega (arith, e)
sentences_grow s (pulling place user) = let e = length-changed (flagged true) s.sentences place in omega (arith, e)
sentences_grow s (restoring place user) = let e = length-changed (flagged false) s.sentences place in omega (arith, e)

fits : (l : Limits) (s : Machine) (a : Act) → length (after s a).sentences ≤ l.sentences → length s.moves + 1 ≤ l.moves → has_room l s a ≡ true
fits l s (importing name user bodies) few m =
    let size = imported_count s name user bodies in
    both_true (nat_le (length s.sentences + length bodies) l.sentences) (nat_le (length s.moves + 1) l.moves) (of_le (length s.sentences + length bodies) l.sentences (omega (arith, size, few))) (of_le (length s.moves + 1) l.moves m)
fits l s (stepping place event user) few m = of_le (length s.moves + 1) l.moves m
fits l s (correcting place user body) few m = of_le (length s.moves + 1) l.moves m
fits l s (pulling place user) few m = of_le (length s.moves + 1) l.moves m
fits l s (restoring place user) few m = of_le (length s.moves + 1) l.moves m

pub commanded : Bodies → (l : Limits) (s : Machine) → Reached s → length s.sentences ≤ l.sentences → length s.moves ≤ l.moves → IsCommanded l s
commanded k l s begun few some = at_first
commanded k l s (further t a r may) few some =
    let n = moves_after t a in
    let grown = sentences_grow t a in
    let room = fits l t a few (omega (arith, n, some)) in
    let c = act_is_command k l t a r (may, room) in
    one_more t (after t a) c.0 (replied (reply_to t a)) (commanded k l t r (omega (arith, grown, few)) (omega (arith, n, some))) c.1.1

within_next : (l : Limits) (s t : Machine) (c : Command) (r : Answer) → IsReachedWithin l s → (t ≡ s) ⊎ ((a : Act) × Did l s c r t a) → IsReachedWithin l t
within_next l s t c r h (inl same) = subst (IsReachedWithin l) (sym same) h
within_next l s t c r h (inr a) =
    let n = moves_after s a.0 in
    let m = moves_fit l s a.0 a.1.0.1 in
    subst (IsReachedWithin l) (sym a.1.3) (further s a.0 h.0 a.1.0.0, sentences_fit l s a.0 h.1 a.1.0.1, omega (arith, n, m))

pub reached_within : (l : Limits) (s : Machine) → IsCommanded l s → IsReachedWithin l s
reached_within l s at_first = (begun, omega arith, omega arith)
reached_within l s (one_more t u c r h steps) = within_next l t s c r (reached_within l t h) (command_did l t s c r steps)
