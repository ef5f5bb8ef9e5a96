-- How a correction ends, by the sentence that was found, and by its body.
use Rattle.std.proofs.Common.{◌≡◌, inl, inr, ℕ, ◌+◌, List, [], ◌∷◌, ◌++◌, length, map, Bool, true, false, cond, Some, Result, Ok, Err, refl, sym, ◌∙◌, ap, subst, arith}
use Rattle.std.specs.Prelude.{nat_le, nat_eq}
use Rattle.std.specs.List.{AllByRecursion}
use Rattle.std.proofs.lemmas.Bool.Decides.{eqb_tells}
use Rattle.tb_conllu.specs.Text.{BlockText, text_of}
use Rattle.tb_conllu.specs.Reported.{IsFile}
use Rattle.tb_core.specs.declared.kinds.State.TheVariants.{Withdrawn}
use Rattle.tb_core.specs.declared.limits.Limits.{Limits}
use Rattle.tb_core.specs.declared.refusals.Refusal.{Refusal}
use Rattle.tb_core.specs.declared.refusals.Refusal.TheVariants.{Stale, SentIdChanged, TextChanged, NothingChanged, Full}
use Rattle.tb_core.specs.declared.replies.Corrected.{Corrected}
use Rattle.tb_core.specs.Names.{is_name}
use Rattle.tb_core.specs.Deciding.{may_correct, then_current, correct_decision}
use Rattle.tb_core.specs.Machine.{sent_id_of, text_value_of, Revision, Sentence, Machine, batch_with, state_in, rev, words}
use Rattle.tb_core.specs.Acts.{correcting, IsAllowed, after}
use Rattle.tb_core.specs.Reaching.{Reached, has_room}
use Rattle.tb_core.specs.Commands.{correct, corrected_to, replied, refused, Ending, ending, HasSentence, reply_to}
use Rattle.tb_core.specs.Tests.{◌otherwise◌, reported, passed, Refuses, IsCorrectRefused, IsNotOne, Corrects, IsIdChanged, IsTextChanged, IsNothingChanged, IsFull, RepeatsCorrection, Accepts}
use Rattle.tb_core.specs.Steps.{CorrectEnds, Steps}
use Rattle.tb_core.specs.Taking.{IsCorrection, IsCorrectionRefused, as_body, not_one, unfit, IsUnfit, other_name, other_text, nothing_new}
use Rattle.tb_core.proofs.Bodies.{Laws}
use Rattle.tb_core.proofs.Chains.{not_bad_name}
use Rattle.tb_core.proofs.Keeps.{well}
use Rattle.tb_core.proofs.Lists.{head_is}
use Rattle.tb_core.proofs.Weights.{all_there}
use Rattle.tb_core.specs.Found.{CurrentSeen, IsSeen, FindsCurrent}
use Rattle.tb_core.specs.Parts.{IsResent, IsNamedCorrection}
use Rattle.tb_core.proofs.FoundOnce.{sentence_once, has_sentence}
use Rattle.tb_core.proofs.BodyTests.{BodyThen, body_stops, body_goes}

-- ---- the first part

abbrev the_reply : ℕ → ℕ → ℕ → Corrected
the_reply n k w = record { sentence = n; rev = k; words = w }

reply_same : (n a b v w : ℕ) → a ≡ b → v ≡ w → the_reply n a v ≡ the_reply n b w
reply_same n a b v w p q = ap (λ z. the_reply n z v) p ∙ ap (λ z. the_reply n b z) q

pub correct_repeat : (l : Limits) (s : Machine) (n base : ℕ) (user body : List ℕ) (f : CurrentSeen) → is_name user ≡ true → FindsCurrent s n (Some f) → IsResent f base user body
    → Steps l s (correct n base user body) (replied (corrected_to (the_reply n f.rev f.words))) s
correct_repeat l s n base user body f good (place, x, has, seen) again =
    passed (not_bad_name s (is_name user) good) (passed (has_sentence s n place x has)
    (reported (
      place,
      x,
      has,
      again.made,
      sym seen.rev ∙ again.next,
      sym seen.who ∙ again.who,
      sym again.same ∙ seen.body,
      ap (λ (z : Corrected). ending (replied (corrected_to z)) s) (reply_same n f.rev (base + 1) f.words (words x) again.next seen.words),
    )))

-- what differs from what stands is no repeat
differs : (s : Machine) (n base : ℕ) (user body : List ℕ) (f : CurrentSeen) (place : ℕ) (x : Sentence) → HasSentence s n place x → IsSeen s x f → (IsResent f base user body → ⊥)
    → (e : Ending) → RepeatsCorrection s n base user body e → ⊥
differs s n base user body f place x has seen differ e h =
    let same : h.1 ≡ x = sentence_once s n h.0 place h.1 x h.2 has in
    differ (record {
      made = h.3;
      next = seen.rev ∙ (ap (λ (y : Sentence). rev y) (sym same) ∙ h.4);
      who = seen.who ∙ (ap (λ (y : Sentence). y.current.who) (sym same) ∙ h.5);
      same = seen.body ∙ (ap (λ (y : Sentence). text_of (y.current.body ∷ [])) (sym same) ∙ sym h.6);
    })

-- the decision on what was found, and that on what stands
abbrev Decided : CurrentSeen → ℕ → List ℕ → Result (Unit {0}) Refusal
Decided f base user = correct_decision (cond f.pulled Withdrawn f.state) f.worker user base f.rev

abbrev Decision : Machine → Sentence → ℕ → List ℕ → Result (Unit {0}) Refusal
Decision s x base user = correct_decision (state_in s.batches x) (batch_with s.batches x.batch).worker user base (rev x)

decided_there : (s : Machine) (x : Sentence) (f : CurrentSeen) (base : ℕ) (user : List ℕ) → IsSeen s x f → Decision s x base user ≡ Decided f base user
decided_there s x f base user seen =
    let state : cond f.pulled Withdrawn f.state ≡ state_in s.batches x = ap (λ p. cond p Withdrawn f.state) seen.pulled ∙ ap (λ z. cond x.pulled Withdrawn z) seen.state in
    sym (ap (λ z. correct_decision z f.worker user base f.rev) state
    ∙ (ap (λ z. correct_decision (state_in s.batches x) z user base f.rev) seen.worker
    ∙ ap (λ z. correct_decision (state_in s.batches x) (batch_with s.batches x.batch).worker user base z) seen.rev))

pub correct_refused : (l : Limits) (s : Machine) (n base : ℕ) (user body : List ℕ) (f : CurrentSeen) (r : Refusal) → is_name user ≡ true → FindsCurrent s n (Some f) → (IsResent f base user body → ⊥)
    → Decided f base user ≡ Err r → Steps l s (correct n base user body) (refused r) s
correct_refused l s n base user body f r good (place, x, has, seen) differ e =
    passed (not_bad_name s (is_name user) good) (passed (has_sentence s n place x has) (passed (differs s n base user body f place x has seen differ)
    (reported (r, (place, x, has, decided_there s x f base user seen ∙ e), refl))))

named_at : (s : Machine) (n base : ℕ) (user body : List ℕ) (f : CurrentSeen) (place : ℕ) (x : Sentence) → is_name user ≡ true → HasSentence s n place x → IsSeen s x f → (IsResent f base user body → ⊥)
    → Decided f base user ≡ Ok tt → IsNamedCorrection s n base user body place x
named_at s n base user body f place x good has seen differ e =
    record { by = good; has = has; fresh = differs s n base user body f place x has seen differ; decided = decided_there s x f base user seen ∙ e }

pub correct_named : (s : Machine) (n base : ℕ) (user body : List ℕ) (f : CurrentSeen) (place : ℕ) (x : Sentence) → is_name user ≡ true → FindsCurrent s n (Some f) → (IsResent f base user body → ⊥)
    → Decided f base user ≡ Ok tt → HasSentence s n place x → IsNamedCorrection s n base user body place x
correct_named s n base user body f place x good (i, y, has, seen) differ e there =
    named_at s n base user body f place x good there (subst (λ (z : Sentence). IsSeen s z f) (sentence_once s n i place y x has there) seen) differ e

-- ---- the second part

abbrev TestsOfOne : Limits → Machine → ℕ → ℕ → List ℕ → List ℕ → Ending → Type 0
TestsOfOne l s n base user body =
    Refuses s (IsNotOne body)
    otherwise Refuses s (IsIdChanged s n body)
    otherwise Refuses s (IsTextChanged s n body)
    otherwise Refuses s (IsNothingChanged s n body)
    otherwise Refuses s (IsFull l s (correct n base user body))
    otherwise Accepts s (correct n base user body)

-- the sentence that is decided on stays the one
decided_none : (s : Machine) (n base : ℕ) (user : List ℕ) (place : ℕ) (x : Sentence) → HasSentence s n place x → Decision s x base user ≡ Ok tt → (d : Ending) → Refuses s (IsCorrectRefused s n base user) d → ⊥
decided_none s n base user place x has e d h =
    let other : Decision s x base user ≡ Err h.0 = subst (λ (y : Sentence). Decision s y base user ≡ Err h.0) (sentence_once s n h.1.0 place h.1.1 x h.1.2 has) h.1.3 in
    let both : Err h.0 ≡ Ok tt = sym other ∙ e in
    absurd (cc)

-- once the first part told nothing, the tests of the body decide
goes_on : (l : Limits) (s : Machine) (n base : ℕ) (user body : List ℕ) (place : ℕ) (x : Sentence) (e : Ending) → IsNamedCorrection s n base user body place x
    → BodyThen s body (TestsOfOne l s n base user body) e → CorrectEnds l s n base user body e
goes_on l s n base user body place x e named h =
    passed (not_bad_name s (is_name user) named.by) (passed (has_sentence s n place x named.has) (passed named.fresh (passed (decided_none s n base user place x named.has named.decided) h)))

last_of : (P : BlockText → Type 0) (rs : List Revision) (c : Revision) → AllByRecursion P (map (λ (r : Revision). r.body) (rs ++ c ∷ [])) → P c.body
last_of P [] c h = h.0
last_of P (r ∷ rs) c h = last_of P rs c h.1

-- the current sentence has the name of its record
titled : (s : Machine) (n place : ℕ) (x : Sentence) → Reached s → HasSentence s n place x → sent_id_of x.current.body ≡ x.sent_id
titled s n place x reached has =
    let fine = all_there _ s.sentences place x has.there (well s reached).fine in
    last_of (λ (b : BlockText). sent_id_of b ≡ x.sent_id) x.before x.current fine.titled

-- a file of one sentence is not one of two
only_one : Laws → (s : Machine) (body : List ℕ) (b : BlockText) → IsFile body (b ∷ []) → (d : Ending) → Refuses s (IsNotOne body) d → ⊥
only_one laws s body b file d h = let n = ap length (laws.one_list body (h.1.0 ∷ h.1.1 ∷ h.1.2) (b ∷ []) h.1.3 file) in absurd (omega (arith, n))

-- what is said of the sentence and the body is said of these
corrects_these : Laws → (s : Machine) (n : ℕ) (body : List ℕ) (place : ℕ) (x : Sentence) (b : BlockText) (relation : Sentence → BlockText → Type 0) → HasSentence s n place x → IsFile body (b ∷ [])
    → Corrects s n body relation → relation x b
corrects_these laws s n body place x b relation has file (i, y, c, there, other, says) =
    let same_body = head_is c b [] [] (laws.one_list body (c ∷ []) (b ∷ []) other file) in
    let same = sentence_once s n i place y x there has in
    subst (λ (z : Sentence). relation z b) same (subst (λ (z : BlockText). relation y z) same_body says)

same_id : Laws → (s : Machine) (n : ℕ) (body : List ℕ) (place : ℕ) (x : Sentence) (b : BlockText) → HasSentence s n place x → IsFile body (b ∷ []) → sent_id_of b ≡ x.sent_id
    → (d : Ending) → Refuses s (IsIdChanged s n body) d → ⊥
same_id laws s n body place x b has file same d h =
    corrects_these laws s n body place x b (λ y c. sent_id_of c ≡ y.sent_id → ⊥) has file h.1.0 same

same_text : Laws → (s : Machine) (n : ℕ) (body : List ℕ) (place : ℕ) (x : Sentence) (b : BlockText) → HasSentence s n place x → IsFile body (b ∷ []) → text_value_of b ≡ text_value_of x.current.body
    → (d : Ending) → Refuses s (IsTextChanged s n body) d → ⊥
same_text laws s n body place x b has file same d h =
    corrects_these laws s n body place x b (λ y c. text_value_of c ≡ text_value_of y.current.body → ⊥) has file h.1.0 same

something_new : Laws → (s : Machine) (n : ℕ) (body : List ℕ) (place : ℕ) (x : Sentence) (b : BlockText) → HasSentence s n place x → IsFile body (b ∷ []) → (b ≡ x.current.body → ⊥)
    → (d : Ending) → Refuses s (IsNothingChanged s n body) d → ⊥
something_new laws s n body place x b has file new d h =
    new (corrects_these laws s n body place x b (λ y c. c ≡ y.current.body) has file h.1.0)

-- the one sentence is unfit
unfit_stops : Laws → (l : Limits) (s : Machine) (n base : ℕ) (user body : List ℕ) (place : ℕ) (x : Sentence) (b : BlockText) (r : Refusal) → HasSentence s n place x → sent_id_of x.current.body ≡ x.sent_id
    → IsFile body (b ∷ []) → IsUnfit b x.current.body r → TestsOfOne l s n base user body (ending (refused r) s)
unfit_stops laws l s n base user body place x b r has own file (other_name h) =
    passed (only_one laws s body b file) (reported (SentIdChanged, ((place, x, b, has, file, λ e. h (e ∙ sym own)), refl), refl))
unfit_stops laws l s n base user body place x b r has own file (other_text same h) =
    passed (only_one laws s body b file) (passed (same_id laws s n body place x b has file (same ∙ own))
    (reported (TextChanged, ((place, x, b, has, file, h), refl), refl)))
unfit_stops laws l s n base user body place x b r has own file (nothing_new e) =
    passed (only_one laws s body b file) (passed (same_id laws s n body place x b has file (ap sent_id_of e ∙ own))
    (passed (same_text laws s n body place x b has file (ap text_value_of e))
    (reported (NothingChanged, ((place, x, b, has, file, e), refl), refl))))

-- the tests of the body stop at what refuses it
stops : Laws → (l : Limits) (s : Machine) (n base : ℕ) (user body : List ℕ) (place : ℕ) (x : Sentence) (r : Refusal) → Reached s → HasSentence s n place x
    → IsCorrectionRefused body x.current.body r → BodyThen s body (TestsOfOne l s n base user body) (ending (refused r) s)
stops laws l s n base user body place x r reached has (as_body h) = body_stops laws s body (TestsOfOne l s n base user body) r h
stops laws l s n base user body place x r reached has (not_one bs good h) =
    body_goes laws s body (TestsOfOne l s n base user body) bs (ending (refused r) s) good (reported (r, h, refl))
stops laws l s n base user body place x r reached has (unfit b good h) =
    body_goes laws s body (TestsOfOne l s n base user body) (b ∷ []) (ending (refused r) s) good
    (unfit_stops laws l s n base user body place x b r has (titled s n place x reached has) good.file h)

pub correct_stops : Laws → (l : Limits) (s : Machine) (n base : ℕ) (user body : List ℕ) (place : ℕ) (x : Sentence) (current : BlockText) (r : Refusal) → Reached s → IsNamedCorrection s n base user body place x
    → current ≡ x.current.body → IsCorrectionRefused body current r → Steps l s (correct n base user body) (refused r) s
correct_stops laws l s n base user body place x current r reached named same h =
    goes_on l s n base user body place x (ending (refused r) s) named
    (stops laws l s n base user body place x r reached named.has (subst (λ (c : BlockText). IsCorrectionRefused body c r) same h))

-- a good sentence leaves the limit alone
limit_left : Laws → (l : Limits) (s : Machine) (n base : ℕ) (user body : List ℕ) (place : ℕ) (x : Sentence) (b : BlockText) (e : Ending) → Reached s → IsNamedCorrection s n base user body place x
    → IsCorrection body x.current.body b
    → ◌otherwise◌ (Refuses s (IsFull l s (correct n base user body))) (Accepts s (correct n base user body)) e → CorrectEnds l s n base user body e
limit_left laws l s n base user body place x b e reached named good h =
    let file = good.taken.file in
    goes_on l s n base user body place x e named
    (body_goes laws s body (TestsOfOne l s n base user body) (b ∷ []) e good.taken
    (passed (only_one laws s body b file)
    (passed (same_id laws s n body place x b named.has file (good.named ∙ titled s n place x reached named.has))
    (passed (same_text laws s n body place x b named.has file good.spelled)
    (passed (something_new laws s n body place x b named.has file good.new) h)))))

-- ---- what a decision says

may_first : (r : Result (Unit {0}) Refusal) (base current : ℕ) → then_current r base current ≡ Ok tt → r ≡ Ok tt
may_first (Ok u) base current e = refl
may_first (Err z) base current e = absurd (cc)

is_current : (t : Bool) (current : ℕ) → cond t (let z : Result (Unit {0}) Refusal = Ok tt in z) (Err (Stale current)) ≡ Ok tt → t ≡ true
is_current true current e = refl
is_current false current e = absurd (cc)

base_first : (r : Result (Unit {0}) Refusal) (base current : ℕ) → then_current r base current ≡ Ok tt → nat_eq base current ≡ true
base_first (Ok u) base current e = is_current (nat_eq base current) current e
base_first (Err z) base current e = absurd (cc)

equal_of : (a b : ℕ) → nat_eq a b ≡ true → a ≡ b
equal_of a b e = elim (eqb_tells a b) [ inl y ↦ y.1 | inr n ↦ (let both : true ≡ false = sym e ∙ n.0 in absurd (cc)) ]

base_current : (s : Machine) (n base : ℕ) (user body : List ℕ) (place : ℕ) (x : Sentence) → IsNamedCorrection s n base user body place x → base ≡ rev x
base_current s n base user body place x named =
    equal_of base (rev x) (base_first (may_correct (state_in s.batches x) (batch_with s.batches x.batch).worker user) base (rev x) named.decided)

-- ---- the limit, and acceptance

pub correct_full : Laws → (l : Limits) (s : Machine) (n base : ℕ) (user body : List ℕ) (place : ℕ) (x : Sentence) (current b : BlockText) → Reached s → IsNamedCorrection s n base user body place x
    → current ≡ x.current.body → IsCorrection body current b → nat_le (length s.moves + 1) l.moves ≡ false → Steps l s (correct n base user body) (refused Full) s
correct_full laws l s n base user body place x current b reached named same good full =
    let own = subst (λ (c : BlockText). IsCorrection body c b) same good in
    limit_left laws l s n base user body place x b (ending (refused Full) s) reached named own
    (reported (Full, (correcting place user b, (place, x, b, named.has, base_current s n base user body place x named, own.taken.file, refl), full, refl), refl))

room_left : (l : Limits) (s : Machine) (n base : ℕ) (user body : List ℕ) → nat_le (length s.moves + 1) l.moves ≡ true → (d : Ending) → Refuses s (IsFull l s (correct n base user body)) d → ⊥
room_left l s n base user body room d h =
    let none : nat_le (length s.moves + 1) l.moves ≡ false = sym (ap (has_room l s) h.1.1.6) ∙ h.1.2 in
    let both : true ≡ false = sym room ∙ none in
    absurd (cc)

abbrev pub CorrectAccepted : Limits → Machine → ℕ → ℕ → List ℕ → List ℕ → ℕ → BlockText → Type 0
CorrectAccepted l s n base user body place b =
    IsAllowed s (correcting place user b) × Steps l s (correct n base user body) (replied (reply_to s (correcting place user b))) (after s (correcting place user b))

pub correct_accepted : Laws → (l : Limits) (s : Machine) (n base : ℕ) (user body : List ℕ) (place : ℕ) (x : Sentence) (current b : BlockText) → Reached s → IsNamedCorrection s n base user body place x
    → current ≡ x.current.body → IsCorrection body current b → nat_le (length s.moves + 1) l.moves ≡ true → CorrectAccepted l s n base user body place b
correct_accepted laws l s n base user body place x current b reached named same good room =
    let own = subst (λ (c : BlockText). IsCorrection body c b) same good in
    let act = correcting place user b in
    let allowed : IsAllowed s act = record {
      by = named.by;
      sentence = x;
      there = named.has.there;
      decided = may_first (may_correct (state_in s.batches x) (batch_with s.batches x.batch).worker user) base (rev x) named.decided;
      lawful = record { shaped = own.taken.file.shaped.0; rules = own.taken.valid.rules.0 };
      same_id = own.named ∙ titled s n place x reached named.has;
      same_text = own.spelled;
      new = own.new;
    } in (
      allowed,
      limit_left laws l s n base user body place x b (ending (replied (reply_to s act)) (after s act)) reached named own
          (passed (room_left l s n base user body room)
          (act, (place, x, b, named.has, base_current s n base user body place x named, own.taken.file, refl), allowed, refl)),
    )
