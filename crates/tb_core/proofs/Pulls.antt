-- How a pull and a restore end, by the sentence that was found.
use Rattle.std.proofs.Common.{◌≡◌, ℕ, ◌+◌, ◌-◌, List, length, Bool, true, false, cond, Some, Result, Ok, Err, refl, sym, ◌∙◌, ap, subst, arith}
use Rattle.std.specs.Prelude.{nat_le}
use Rattle.tb_core.specs.declared.kinds.State.{State}
use Rattle.tb_core.specs.declared.kinds.State.TheVariants.{Withdrawn}
use Rattle.tb_core.specs.declared.limits.Limits.{Limits}
use Rattle.tb_core.specs.declared.refusals.Refusal.{Refusal}
use Rattle.tb_core.specs.declared.refusals.Refusal.TheVariants.{WrongState, NotPulled, Full}
use Rattle.tb_core.specs.Names.{is_name}
use Rattle.tb_core.specs.Events.{is_state}
use Rattle.tb_core.specs.Deciding.{pull_decision, restore_decision}
use Rattle.tb_core.specs.Machine.{Sentence, Machine, batch_with}
use Rattle.tb_core.specs.Acts.{pulling, restoring, IsAllowed, after, to_state}
use Rattle.tb_core.specs.Reaching.{has_room}
use Rattle.tb_core.specs.Commands.{pull, restore, replied, refused, Ending, HasSentence, reply_to}
use Rattle.tb_core.specs.Tests.{reported, passed, Refuses, IsPullRefused, IsRestoreRefused, IsFull}
use Rattle.tb_core.specs.Steps.{Steps}
use Rattle.tb_core.proofs.Chains.{not_bad_name}
use Rattle.tb_core.proofs.Weights.{weight_there}
use Rattle.tb_core.specs.declared.pulling.SentenceFound.{SentenceFound}
use Rattle.tb_core.specs.Found.{FindsSentence}
use Rattle.tb_core.proofs.FoundOnce.{sentence_once, has_sentence}

abbrev Decision : Type 0
Decision = Result (Unit {0}) Refusal

-- ---- a pull

abbrev Pulls : Machine → Sentence → Decision → Type 0
Pulls s x r = pull_decision (batch_with s.batches x.batch).state x.pulled ≡ r

pull_there : (s : Machine) (f : SentenceFound) (x : Sentence) (r : Decision) → f.state ≡ (batch_with s.batches x.batch).state → f.pulled ≡ x.pulled → pull_decision f.state f.pulled ≡ r → Pulls s x r
pull_there s f x r p q e = ap (λ z. pull_decision z x.pulled) (sym p) ∙ (ap (λ z. pull_decision f.state z) (sym q) ∙ e)

pub pull_refused : (l : Limits) (s : Machine) (n : ℕ) (user : List ℕ) (f : SentenceFound) (r : Refusal) → is_name user ≡ true → FindsSentence s n (Some f) → pull_decision f.state f.pulled ≡ Err r → Steps l s (pull n user) (refused r) s
pull_refused l s n user f r good (place, x, has, p, q) e =
    passed (not_bad_name s (is_name user) good) (passed (has_sentence s n place x has)
    (reported (r, (place, x, has, pull_there s f x (Err r) p q e), refl)))

pulls : (s : Machine) (n place : ℕ) (x : Sentence) → HasSentence s n place x → Pulls s x (Ok tt) → (d : Ending) → Refuses s (IsPullRefused s n) d → ⊥
pulls s n place x has e d h =
    let other : Pulls s x (Err h.0) = subst (λ (y : Sentence). Pulls s y (Err h.0)) (sentence_once s n h.1.0 place h.1.1 x h.1.2 has) h.1.3 in
    let both : Err h.0 ≡ Ok tt = sym other ∙ e in
    absurd (cc)

pub pull_full : (l : Limits) (s : Machine) (n : ℕ) (user : List ℕ) (f : SentenceFound) → is_name user ≡ true → FindsSentence s n (Some f) → pull_decision f.state f.pulled ≡ Ok tt → nat_le (length s.moves + 1) l.moves ≡ false
    → Steps l s (pull n user) (refused Full) s
pull_full l s n user f good (place, x, has, p, q) e full =
    passed (not_bad_name s (is_name user) good) (passed (has_sentence s n place x has)
    (passed (pulls s n place x has (pull_there s f x (Ok tt) p q e))
    (reported (Full, (pulling place user, (place, x, has, refl), full, refl), refl))))

pull_room : (l : Limits) (s : Machine) (n : ℕ) (user : List ℕ) → nat_le (length s.moves + 1) l.moves ≡ true → (d : Ending) → Refuses s (IsFull l s (pull n user)) d → ⊥
pull_room l s n user room d h =
    let none : nat_le (length s.moves + 1) l.moves ≡ false = sym (ap (has_room l s) h.1.1.3) ∙ h.1.2 in
    let both : true ≡ false = sym room ∙ none in
    absurd (cc)

abbrev pub PullAccepted : Limits → Machine → ℕ → List ℕ → ℕ → Type 0
PullAccepted l s n user place = IsAllowed s (pulling place user) × Steps l s (pull n user) (replied (reply_to s (pulling place user))) (after s (pulling place user))

pub pull_accepted : (l : Limits) (s : Machine) (n : ℕ) (user : List ℕ) (f : SentenceFound) → is_name user ≡ true → FindsSentence s n (Some f) → pull_decision f.state f.pulled ≡ Ok tt → nat_le (length s.moves + 1) l.moves ≡ true
    → PullAccepted l s n user (n - 1)
pull_accepted l s n user f good (place, x, has, p, q) e room =
    let counted : place ≡ n - 1 = let at = has.counted in omega (arith, at) in
    let decided = pull_there s f x (Ok tt) p q e in
    let allowed : IsAllowed s (pulling place user) = record { by = good; sentence = x; there = has.there; decided = decided } in
    subst (PullAccepted l s n user) counted (
      allowed,
      passed (not_bad_name s (is_name user) good) (passed (has_sentence s n place x has)
          (passed (pulls s n place x has decided)
          (passed (pull_room l s n user room)
          (pulling place user, (place, x, has, refl), allowed, refl)))),
    )

-- ---- a restore

restores_by : Bool → Bool → State → Result State Refusal
restores_by withdrawn pulled state = cond withdrawn (Err (WrongState state)) (cond pulled (Ok state) (Err NotPulled))

same_by : (withdrawn pulled : Bool) (state reported_state : State) → restores_by withdrawn pulled state ≡ Ok reported_state → reported_state ≡ state
unfolding restores_by
same_by true pulled state reported_state e = absurd (cc)
same_by false true state reported_state e = cc
same_by false false state reported_state e = absurd (cc)

-- a restore that is allowed comes back to the state of the batch
restored_same : (state : State) (pulled : Bool) (reported_state : State) → restore_decision state pulled ≡ Ok reported_state → reported_state ≡ state
unfolding restores_by
restored_same state pulled reported_state e = same_by (is_state state Withdrawn) pulled state reported_state e

abbrev Restores : Machine → Sentence → Result State Refusal → Type 0
Restores s x r = restore_decision (batch_with s.batches x.batch).state x.pulled ≡ r

restore_there : (s : Machine) (f : SentenceFound) (x : Sentence) (r : Result State Refusal) → f.state ≡ (batch_with s.batches x.batch).state → f.pulled ≡ x.pulled → restore_decision f.state f.pulled ≡ r → Restores s x r
restore_there s f x r p q e = ap (λ z. restore_decision z x.pulled) (sym p) ∙ (ap (λ z. restore_decision f.state z) (sym q) ∙ e)

pub restore_refused : (l : Limits) (s : Machine) (n : ℕ) (user : List ℕ) (f : SentenceFound) (r : Refusal) → is_name user ≡ true → FindsSentence s n (Some f) → restore_decision f.state f.pulled ≡ Err r
    → Steps l s (restore n user) (refused r) s
restore_refused l s n user f r good (place, x, has, p, q) e =
    passed (not_bad_name s (is_name user) good) (passed (has_sentence s n place x has)
    (reported (r, (place, x, has, restore_there s f x (Err r) p q e), refl)))

restores : (s : Machine) (n place : ℕ) (x : Sentence) (state : State) → HasSentence s n place x → Restores s x (Ok state) → (d : Ending) → Refuses s (IsRestoreRefused s n) d → ⊥
restores s n place x state has e d h =
    let other : Restores s x (Err h.0) = subst (λ (y : Sentence). Restores s y (Err h.0)) (sentence_once s n h.1.0 place h.1.1 x h.1.2 has) h.1.3 in
    let both : Err h.0 ≡ Ok state = sym other ∙ e in
    absurd (cc)

pub restore_full : (l : Limits) (s : Machine) (n : ℕ) (user : List ℕ) (f : SentenceFound) (state : State) → is_name user ≡ true → FindsSentence s n (Some f) → restore_decision f.state f.pulled ≡ Ok state
    → nat_le (length s.moves + 1) l.moves ≡ false → Steps l s (restore n user) (refused Full) s
restore_full l s n user f state good (place, x, has, p, q) e full =
    passed (not_bad_name s (is_name user) good) (passed (has_sentence s n place x has)
    (passed (restores s n place x state has (restore_there s f x (Ok state) p q e))
    (reported (Full, (restoring place user, (place, x, has, refl), full, refl), refl))))

restore_room : (l : Limits) (s : Machine) (n : ℕ) (user : List ℕ) → nat_le (length s.moves + 1) l.moves ≡ true → (d : Ending) → Refuses s (IsFull l s (restore n user)) d → ⊥
restore_room l s n user room d h =
    let none : nat_le (length s.moves + 1) l.moves ≡ false = sym (ap (has_room l s) h.1.1.3) ∙ h.1.2 in
    let both : true ≡ false = sym room ∙ none in
    absurd (cc)

abbrev pub RestoreAccepted : Limits → Machine → ℕ → List ℕ → State → ℕ → Type 0
RestoreAccepted l s n user state place =
    (state ≡ to_state s (restoring place user)) × IsAllowed s (restoring place user) × Steps l s (restore n user) (replied (reply_to s (restoring place user))) (after s (restoring place user))

pub restore_accepted : (l : Limits) (s : Machine) (n : ℕ) (user : List ℕ) (f : SentenceFound) (state : State) → is_name user ≡ true → FindsSentence s n (Some f) → restore_decision f.state f.pulled ≡ Ok state
    → nat_le (length s.moves + 1) l.moves ≡ true → RestoreAccepted l s n user state (n - 1)
restore_accepted l s n user f state good (place, x, has, p, q) e room =
    let counted : place ≡ n - 1 = let at = has.counted in omega (arith, at) in
    let decided = restore_there s f x (Ok state) p q e in
    let own = restored_same (batch_with s.batches x.batch).state x.pulled state decided in
    let in_batch = weight_there (λ (y : Sentence). y.batch) s.sentences place x has.there in
    let allowed : IsAllowed s (restoring place user) = record { by = good; sentence = x; there = has.there; decided = decided ∙ ap (λ (z : State). let r : Result State Refusal = Ok z in r) own } in
    subst (RestoreAccepted l s n user state) counted (
      own ∙ ap (λ k. (batch_with s.batches k).state) (sym in_batch),
      allowed,
      passed (not_bad_name s (is_name user) good) (passed (has_sentence s n place x has)
          (passed (restores s n place x state has decided)
          (passed (restore_room l s n user room)
          (restoring place user, (place, x, has, refl), allowed, refl)))),
    )
