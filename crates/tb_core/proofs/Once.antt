-- A command ends one way: each of its tests tells at most one ending.
use Rattle.std.proofs.Common.{◌≡◌, ℕ, zero, suc, ◌+◌, List, [], ◌∷◌, ◌++◌, length, Bool, ◌&&◌, None, Some, Result, Err, refl, sym, ◌∙◌, ap, subst, arith}
use Rattle.std.specs.Prelude.{slice_get}
use Rattle.std.specs.List.{AllByRecursion}
use Rattle.tb_conllu.specs.Text.{BlockText}
use Rattle.tb_conllu.specs.Reported.{IsReported}
use Rattle.tb_rules.specs.File.{IsFaultAt}
use Rattle.tb_core.specs.declared.kinds.Event.{Event}
use Rattle.tb_core.specs.declared.limits.Limits.{Limits}
use Rattle.tb_core.specs.declared.refusals.Refusal.{Refusal}
use Rattle.tb_core.specs.declared.refusals.Refusal.TheVariants.{Read, Rule, SentIdTaken}
use Rattle.tb_core.specs.Names.{is_name, Lacks, AreApart}
use Rattle.tb_core.specs.Deciding.{event_decision, correct_decision, pull_decision, restore_decision}
use Rattle.tb_core.specs.Machine.{sent_id_of, Batch, Sentence, Machine, batch_with, state_in, rev, words}
use Rattle.tb_core.specs.Acts.{Act, importing, stepping, correcting, pulling, restoring, after, names_of, ids_of, ids_in}
use Rattle.tb_core.specs.Reaching.{Reached}
use Rattle.tb_core.specs.Keeping.{IsWell}
use Rattle.tb_core.specs.Commands.{Command, import_file, event_on, correct, pull, restore, Answer, replied, refused, Ending, ending, HasBatch, HasSentence, Means, reply_to}
use Rattle.tb_core.specs.Tests.{◌otherwise◌, reported, passed, Refuses, IsBadName, IsNoBatch, IsNoSentence, IsEventRefused, IsCorrectRefused, IsPullRefused, IsRestoreRefused, IsNameTaken, IsFirstTaken, IsIdTaken, IsFull, IsUnread, IsBroken, IsEmpty, IsNotOne, IsIdChanged, IsTextChanged, IsNothingChanged, import_reply, RepeatsImport, RepeatsCorrection, Accepts}
use Rattle.tb_core.specs.Steps.{Ends, Steps}
use Rattle.tb_core.proofs.Lists.{head_is, tail_is, get_one}
use Rattle.tb_core.proofs.Keeps.{well}
use Rattle.tb_core.proofs.Same.{IsOneList}
use Rattle.tb_core.proofs.Again.{the_reply, same_place}

-- at most one ending
record AreOne (p : Ending → Type 0) : Type 0 where
  pub one : (d e : Ending) → p d → p e → d ≡ e

-- what is known of bodies
pub record Bodies : Type 0 where
  pub one_list : IsOneList
  pub one_fault : (f : List ℕ) (line code other_line other_code : ℕ) → IsReported f line code → IsReported f other_line other_code → (line ≡ other_line) × (code ≡ other_code)
  pub one_rule : (bs : List BlockText) (sentence rule row other_sentence other_rule other_row : ℕ) → IsFaultAt bs sentence rule row → IsFaultAt bs other_sentence other_rule other_row
      → (sentence ≡ other_sentence) × (rule ≡ other_rule) × (row ≡ other_row)

join : (p q : Ending → Type 0) → AreOne p → AreOne q → (d e : Ending) → ◌otherwise◌ p q d → ◌otherwise◌ p q e → d ≡ e
join p q a b d e (reported x) (reported y) = a.one d e x y
join p q a b d e (reported x) (passed n y) = absurd (n d x)
join p q a b d e (passed n x) (reported y) = absurd (n e y)
join p q a b d e (passed n x) (passed m y) = b.one d e x y

one_of : {p q : Ending → Type 0} → AreOne p → AreOne q → AreOne (◌otherwise◌ p q)
one_of {p = p} {q = q} a b = record { one = join p q a b }

refusal_once : (s : Machine) (test : Refusal → Type 0) → ((r q : Refusal) → test r → test q → r ≡ q) → AreOne (Refuses s test)
refusal_once s test h = record { one = λ d e x y. x.2 ∙ (ap (λ r. ending (refused r) s) (h x.0 y.0 x.1 y.1) ∙ sym y.2) }

-- ---- what stands is found at one place

lacks_at : (bs : List Batch) (name : List ℕ) (j : ℕ) (c : Batch) → Lacks (names_of bs) name → slice_get bs j ≡ Some c → name ≡ c.name → ⊥
lacks_at [] name j c h e same = let d : None ≡ Some c = e in absurd (cc)
lacks_at (b ∷ bs) name zero c h e same = let one : b ≡ c = let d : Some b ≡ Some c = e in cc in h.0 (same ∙ ap (λ (x : Batch). x.name) (sym one))
lacks_at (b ∷ bs) name (suc j) c h e same = lacks_at bs name j c h.1 e same

one_place : (bs : List Batch) (i j : ℕ) (b c : Batch) → AreApart (names_of bs) → slice_get bs i ≡ Some b → slice_get bs j ≡ Some c → b.name ≡ c.name → i ≡ j
one_place [] i j b c h e f same = let d : None ≡ Some b = e in absurd (cc)
one_place (x ∷ xs) zero zero b c h e f same = refl
one_place (x ∷ xs) zero (suc j) b c h e f same =
    let one : x ≡ b = let d : Some x ≡ Some b = e in cc in
    absurd (lacks_at xs x.name j c h.0 f (ap (λ (y : Batch). y.name) one ∙ same))
one_place (x ∷ xs) (suc i) zero b c h e f same =
    let one : x ≡ c = let d : Some x ≡ Some c = f in cc in
    absurd (lacks_at xs x.name i b h.0 e (ap (λ (y : Batch). y.name) one ∙ sym same))
one_place (x ∷ xs) (suc i) (suc j) b c h e f same = ap suc (one_place xs i j b c h.1 e f same)

batch_place : (s : Machine) (name : List ℕ) (i j : ℕ) (b c : Batch) → IsWell s → HasBatch s name i b → HasBatch s name j c → i ≡ j
batch_place s name i j b c w x y = one_place s.batches i j b c w.names x.there y.there (x.named ∙ sym y.named)

batch_once : (s : Machine) (name : List ℕ) (i j : ℕ) (b c : Batch) → IsWell s → HasBatch s name i b → HasBatch s name j c → b ≡ c
batch_once s name i j b c w x y = get_one s.batches j b c (subst (λ k. slice_get s.batches k ≡ Some b) (batch_place s name i j b c w x y) x.there) y.there

sentence_once : (s : Machine) (n i j : ℕ) (x y : Sentence) → HasSentence s n i x → HasSentence s n j y → x ≡ y
sentence_once s n i j x y h k = get_one s.sentences j x y (subst (λ m. slice_get s.sentences m ≡ Some x) (same_place n i j h.counted k.counted) h.there) k.there

-- ---- each test

err_once : (X : Type 0) (v : Result X Refusal) (r q : Refusal) → v ≡ Err r → v ≡ Err q → r ≡ q
err_once X v r q e f = cc

read_is : (a b c d : ℕ) → a ≡ b → c ≡ d → Read a c ≡ Read b d
read_is a b c d p q = cc

rule_is : (a b c d e f : ℕ) → a ≡ b → c ≡ d → e ≡ f → Rule a c e ≡ Rule b d f
rule_is a b c d e f p q r = cc

unread_once : Bodies → (body : List ℕ) (r q : Refusal) → IsUnread body r → IsUnread body q → r ≡ q
unread_once k body r q x y =
    let e = k.one_fault body x.0 x.1 y.0 y.1 x.2 y.2 in
    x.3 ∙ (read_is x.0 y.0 x.1 y.1 e.0 e.1 ∙ sym y.3)

broken_once : Bodies → (body : List ℕ) (r q : Refusal) → IsBroken body r → IsBroken body q → r ≡ q
broken_once k body r q x y =
    let same = subst (λ bs. IsFaultAt bs y.1 y.2 y.3) (k.one_list body y.0 x.0 y.4 x.4) y.5 in
    let e = k.one_rule x.0 x.1 x.2 x.3 y.1 y.2 y.3 x.5 same in
    x.6 ∙ (rule_is x.1 y.1 x.2 y.2 x.3 y.3 e.0 e.1 e.2 ∙ sym y.6)

first_place : (ids : List (List ℕ)) (us bs : List BlockText) (a b : BlockText) (ps qs : List BlockText) → us ++ a ∷ ps ≡ bs ++ b ∷ qs → AllByRecursion (Lacks ids) (ids_in us) → AllByRecursion (Lacks ids) (ids_in bs)
    → (Lacks ids (sent_id_of a) → ⊥) → (Lacks ids (sent_id_of b) → ⊥) → length us ≡ length bs
first_place ids [] [] a b ps qs e h k x y = refl
first_place ids [] (c ∷ bs) a b ps qs e h k x y = absurd (x (subst (λ (z : BlockText). Lacks ids (sent_id_of z)) (sym (head_is a c ps (bs ++ b ∷ qs) e)) k.0))
first_place ids (c ∷ us) [] a b ps qs e h k x y = absurd (y (subst (λ (z : BlockText). Lacks ids (sent_id_of z)) (head_is c b (us ++ a ∷ ps) qs e) h.0))
first_place ids (c ∷ us) (d ∷ bs) a b ps qs e h k x y = let n = first_place ids us bs a b ps qs (tail_is c d (us ++ a ∷ ps) (bs ++ b ∷ qs) e) h.1 k.1 x y in omega (arith, n)

first_taken_once : (ids : List (List ℕ)) (bs : List BlockText) (n k : ℕ) → IsFirstTaken ids bs n → IsFirstTaken ids bs k → n ≡ k
first_taken_once ids bs n k h g =
    let e = first_place ids h.before g.before h.body g.body h.more g.more (sym h.whole ∙ g.whole) h.free g.free h.taken g.taken in
    omega (arith, e, h.counted, g.counted)

taken_once : Bodies → (s : Machine) (body : List ℕ) (r q : Refusal) → IsIdTaken s body r → IsIdTaken s body q → r ≡ q
taken_once k s body r q x y =
    let same = subst (λ bs. IsFirstTaken (ids_of s.sentences) bs y.1) (k.one_list body y.0 x.0 y.2 x.2) y.3 in
    x.4 ∙ (ap (λ n. SentIdTaken n) (first_taken_once (ids_of s.sentences) x.0 x.1 y.1 x.3 same) ∙ sym y.4)

event_once : (s : Machine) (name : List ℕ) (event : Event) (user : List ℕ) → IsWell s → (r q : Refusal) → IsEventRefused s name event user r → IsEventRefused s name event user q → r ≡ q
event_once s name event user w r q x y =
    let same = batch_once s name x.0 y.0 x.1 y.1 w x.2 y.2 in
    err_once _ (event_decision y.1.state y.1.worker event user) r q (subst (λ (b : Batch). event_decision b.state b.worker event user ≡ Err r) same x.3) y.3

correct_once : (s : Machine) (n base : ℕ) (user : List ℕ) (r q : Refusal) → IsCorrectRefused s n base user r → IsCorrectRefused s n base user q → r ≡ q
correct_once s n base user r q x y =
    let same = sentence_once s n x.0 y.0 x.1 y.1 x.2 y.2 in
    err_once _ (correct_decision (state_in s.batches y.1) (batch_with s.batches y.1.batch).worker user base (rev y.1)) r q
    (subst (λ (z : Sentence). correct_decision (state_in s.batches z) (batch_with s.batches z.batch).worker user base (rev z) ≡ Err r) same x.3) y.3

pull_once : (s : Machine) (n : ℕ) (r q : Refusal) → IsPullRefused s n r → IsPullRefused s n q → r ≡ q
pull_once s n r q x y =
    let same = sentence_once s n x.0 y.0 x.1 y.1 x.2 y.2 in
    err_once _ (pull_decision (batch_with s.batches y.1.batch).state y.1.pulled) r q (subst (λ (z : Sentence). pull_decision (batch_with s.batches z.batch).state z.pulled ≡ Err r) same x.3) y.3

restore_once : (s : Machine) (n : ℕ) (r q : Refusal) → IsRestoreRefused s n r → IsRestoreRefused s n q → r ≡ q
restore_once s n r q x y =
    let same = sentence_once s n x.0 y.0 x.1 y.1 x.2 y.2 in
    err_once _ (restore_decision (batch_with s.batches y.1.batch).state y.1.pulled) r q (subst (λ (z : Sentence). restore_decision (batch_with s.batches z.batch).state z.pulled ≡ Err r) same x.3) y.3

repeat_import_once : (s : Machine) (name body : List ℕ) → IsWell s → AreOne (RepeatsImport s name body)
repeat_import_once s name body w = record { one = λ d e x y. x.4 ∙ (ap (λ i. ending (replied (import_reply s (i + 1))) s) (batch_place s name x.0 y.0 x.1 y.1 w x.2 y.2) ∙ sym y.4) }

repeat_correction_once : (s : Machine) (n base : ℕ) (user body : List ℕ) → AreOne (RepeatsCorrection s n base user body)
repeat_correction_once s n base user body = record { one = λ d e x y. x.7 ∙ (ap (λ (z : Sentence). ending (replied (the_reply n (base + 1) (words z))) s) (sentence_once s n x.0 y.0 x.1 y.1 x.2 y.2) ∙ sym y.7) }

-- ---- acceptance

means_once : Bodies → (s : Machine) (c : Command) → IsWell s → (a b : Act) → Means s c a → Means s c b → a ≡ b
means_once k s (import_file name user body) w a b x y = x.2 ∙ (ap (λ bs. importing name user bs) (k.one_list body x.0 y.0 x.1 y.1) ∙ sym y.2)
means_once k s (event_on name event user) w a b x y = x.3 ∙ (ap (λ i. stepping i event user) (batch_place s name x.0 y.0 x.1 y.1 w x.2 y.2) ∙ sym y.3)
means_once k s (correct n base user body) w a b x y =
    let place = same_place n x.0 y.0 x.3.counted y.3.counted in
    let one = head_is x.2 y.2 [] [] (k.one_list body (x.2 ∷ []) (y.2 ∷ []) x.5 y.5) in
    x.6 ∙ (ap (λ i. correcting i user x.2) place ∙ (ap (λ z. correcting y.0 user z) one ∙ sym y.6))
means_once k s (pull n user) w a b x y = x.3 ∙ (ap (λ i. pulling i user) (same_place n x.0 y.0 x.2.counted y.2.counted) ∙ sym y.3)
means_once k s (restore n user) w a b x y = x.3 ∙ (ap (λ i. restoring i user) (same_place n x.0 y.0 x.2.counted y.2.counted) ∙ sym y.3)

accepted_once : Bodies → (s : Machine) (c : Command) → IsWell s → AreOne (Accepts s c)
accepted_once k s c w = record { one = λ d e x y. x.3 ∙ (ap (λ a. ending (replied (reply_to s a)) (after s a)) (means_once k s c w x.0 y.0 x.1 y.1) ∙ sym y.3) }

-- ---- each command

bad_name_once : (s : Machine) (good : Bool) → AreOne (Refuses s (IsBadName good))
bad_name_once s good = refusal_once s (IsBadName good) (λ r q x y. x.1 ∙ sym y.1)

no_sentence_once : (s : Machine) (n : ℕ) → AreOne (Refuses s (IsNoSentence s n))
no_sentence_once s n = refusal_once s (IsNoSentence s n) (λ r q x y. x.1 ∙ sym y.1)

rest_once : Bodies → (l : Limits) (s : Machine) (c : Command) → IsWell s → AreOne (◌otherwise◌ (Refuses s (IsFull l s c)) (Accepts s c))
rest_once k l s c w = one_of (refusal_once s (IsFull l s c) (λ r q x y. x.3 ∙ sym y.3)) (accepted_once k s c w)

ends_once : Bodies → (l : Limits) (s : Machine) (c : Command) → IsWell s → AreOne (Ends l s c)
ends_once k l s (import_file name user body) w =
    one_of (bad_name_once s (is_name name && is_name user)) (one_of (repeat_import_once s name body w) (one_of (refusal_once s (IsUnread body) (unread_once k body)) (one_of (refusal_once s (IsBroken body) (broken_once k body))
    (one_of (refusal_once s (IsEmpty body) (λ r q x y. x.1 ∙ sym y.1)) (one_of (refusal_once s (IsNameTaken s name) (λ r q x y. x.1 ∙ sym y.1)) (one_of (refusal_once s (IsIdTaken s body) (taken_once k s body)) (rest_once k l s (import_file name user body) w)))))))
ends_once k l s (event_on name event user) w =
    one_of (bad_name_once s (is_name name && is_name user)) (one_of (refusal_once s (IsNoBatch s name) (λ r q x y. x.1 ∙ sym y.1)) (one_of (refusal_once s (IsEventRefused s name event user) (event_once s name event user w)) (rest_once k l s (event_on name event user) w)))
ends_once k l s (correct n base user body) w =
    one_of (bad_name_once s (is_name user)) (one_of (no_sentence_once s n) (one_of (repeat_correction_once s n base user body) (one_of (refusal_once s (IsCorrectRefused s n base user) (correct_once s n base user))
    (one_of (refusal_once s (IsUnread body) (unread_once k body)) (one_of (refusal_once s (IsBroken body) (broken_once k body)) (one_of (refusal_once s (IsEmpty body) (λ r q x y. x.1 ∙ sym y.1)) (one_of (refusal_once s (IsNotOne body) (λ r q x y. x.4 ∙ sym y.4))
    (one_of (refusal_once s (IsIdChanged s n body) (λ r q x y. x.1 ∙ sym y.1)) (one_of (refusal_once s (IsTextChanged s n body) (λ r q x y. x.1 ∙ sym y.1)) (one_of (refusal_once s (IsNothingChanged s n body) (λ r q x y. x.1 ∙ sym y.1)) (rest_once k l s (correct n base user body) w)))))))))))
ends_once k l s (pull n user) w = one_of (bad_name_once s (is_name user)) (one_of (no_sentence_once s n) (one_of (refusal_once s (IsPullRefused s n) (pull_once s n)) (rest_once k l s (pull n user) w)))
ends_once k l s (restore n user) w = one_of (bad_name_once s (is_name user)) (one_of (no_sentence_once s n) (one_of (refusal_once s (IsRestoreRefused s n) (restore_once s n)) (rest_once k l s (restore n user) w)))

pub steps_once : Bodies → (l : Limits) (s t u : Machine) (c : Command) (a b : Answer) → Reached s → Steps l s c a t → Steps l s c b u → (a ≡ b) × (t ≡ u)
steps_once k l s t u c a b r x y =
    let same = (ends_once k l s c (well s r)).one (ending a t) (ending b u) x y in
    (ap (λ (e : Ending). e.answer) same, ap (λ (e : Ending). e.state) same)
