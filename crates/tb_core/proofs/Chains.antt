-- Chains of tests taken apart: which test told an ending.
use Rattle.std.proofs.Common.{◌≡◌, ℕ, List, Bool, true, false, ◌&&◌, refl, sym, ◌∙◌, ap}
use Rattle.tb_core.specs.declared.limits.Limits.{Limits}
use Rattle.tb_core.specs.declared.refusals.Refusal.{Refusal}
use Rattle.tb_core.specs.declared.refusals.Refusal.TheVariants.{BadName}
use Rattle.tb_core.specs.Names.{is_name}
use Rattle.tb_core.specs.Machine.{Machine}
use Rattle.tb_core.specs.Commands.{Command, import_file, event_on, correct, pull, restore, Reply, Answer, replied, refused, Ending, ending}
use Rattle.tb_core.specs.Tests.{◌otherwise◌, reported, passed, Refuses, IsBadName, IsFull, RepeatsImport, RepeatsCorrection, Accepts}
use Rattle.tb_core.specs.Steps.{ImportEnds, CorrectEnds, Ends}

pub both_true : (a b : Bool) → a ≡ true → b ≡ true → (a && b) ≡ true
both_true a b e f = ap (λ t. t && b) e ∙ f

-- the first of two names is good where both are
pub good_user : (a b : Bool) → (a && b) ≡ true → a ≡ true
good_user true b e = refl
good_user false b e = e

pub second_good : (a b : Bool) → (a && b) ≡ true → b ≡ true
second_good true b e = e
second_good false b e = let d : false ≡ true = e in absurd (cc)

pub not_bad_name : (s : Machine) (good : Bool) → good ≡ true → (d : Ending) → Refuses s (IsBadName good) d → ⊥
not_bad_name s good e d h = let no_name : true ≡ false = sym e ∙ h.1.0 in absurd (cc)

pub good_name_of : (s : Machine) (good : Bool) → ((d : Ending) → Refuses s (IsBadName good) d → ⊥) → good ≡ true
good_name_of s true h = refl
good_name_of s false h = absurd (h (ending (refused BadName) s) (BadName, (refl, refl), refl))

pub reply_of : (r q : Reply) (t s : Machine) → ending (replied r) t ≡ ending (replied q) s → r ≡ q
reply_of r q t s e = let d : replied r ≡ replied q = ap (λ (x : Ending). x.answer) e in cc

pub state_of : (a b : Answer) (t s : Machine) → ending a t ≡ ending b s → t ≡ s
state_of a b t s e = ap (λ (x : Ending). x.state) e

-- a refusal is no reply
pub no_refusal : (s : Machine) (test : Refusal → Type 0) (r : Reply) (t : Machine) → Refuses s test (ending (replied r) t) → ⊥
no_refusal s test r t h = let d : replied r ≡ refused h.0 = ap (λ (x : Ending). x.answer) h.2 in absurd (cc)

-- a command that was answered with a reply was a repeat, or was accepted
pub data Replied (s : Machine) (c : Command) (repeats : Ending → Type 0) (e : Ending) : Type 0 where
  replied_repeat : repeats e → Replied s c repeats e
  replied_new : Accepts s c e → Replied s c repeats e

pub import_replied : (l : Limits) (s : Machine) (name user body : List ℕ) (r : Reply) (t : Machine) → ImportEnds l s name user body (ending (replied r) t)
    → ((is_name name && is_name user) ≡ true) × Replied s (import_file name user body) (RepeatsImport s name body) (ending (replied r) t)
import_replied l s name user body r t (reported h) = absurd (no_refusal s _ r t h)
import_replied l s name user body r t (passed n (reported h)) = (good_name_of s (is_name name && is_name user) n, replied_repeat h)
import_replied l s name user body r t (passed n (passed n1 (reported h))) = absurd (no_refusal s _ r t h)
import_replied l s name user body r t (passed n (passed n1 (passed n2 (reported h)))) = absurd (no_refusal s _ r t h)
import_replied l s name user body r t (passed n (passed n1 (passed n2 (passed n3 (reported h))))) = absurd (no_refusal s _ r t h)
import_replied l s name user body r t (passed n (passed n1 (passed n2 (passed n3 (passed n4 (reported h)))))) = absurd (no_refusal s _ r t h)
import_replied l s name user body r t (passed n (passed n1 (passed n2 (passed n3 (passed n4 (passed n5 (reported h))))))) = absurd (no_refusal s _ r t h)
import_replied l s name user body r t (passed n (passed n1 (passed n2 (passed n3 (passed n4 (passed n5 (passed n6 (reported h)))))))) = absurd (no_refusal s _ r t h)
import_replied l s name user body r t (passed n (passed n1 (passed n2 (passed n3 (passed n4 (passed n5 (passed n6 (passed n7 h)))))))) = (good_name_of s (is_name name && is_name user) n, replied_new h)

-- ---- chains in general

pub either : {p q : Ending → Type 0} {e : Ending} (O : Type 0) → ◌otherwise◌ p q e → (p e → O) → (((d : Ending) → p d → ⊥) → q e → O) → O
either O (reported h) f g = f h
either O (passed n h) f g = g n h

pub correct_replied : (l : Limits) (s : Machine) (n base : ℕ) (user body : List ℕ) (r : Reply) (t : Machine) → CorrectEnds l s n base user body (ending (replied r) t)
    → (is_name user ≡ true) × Replied s (correct n base user body) (RepeatsCorrection s n base user body) (ending (replied r) t)
correct_replied l s n base user body r t h =
    let O : Type 0 = (is_name user ≡ true) × Replied s (correct n base user body) (RepeatsCorrection s n base user body) (ending (replied r) t) in
    either O h (λ x. absurd (no_refusal s _ r t x)) (λ no h1. let good = good_name_of s (is_name user) no in
    either O h1 (λ x. absurd (no_refusal s _ r t x)) (λ _ h2.
    either O h2 (λ x. (good, replied_repeat x)) (λ _ h3.
    either O h3 (λ x. absurd (no_refusal s _ r t x)) (λ _ h4.
    either O h4 (λ x. absurd (no_refusal s _ r t x)) (λ _ h5.
    either O h5 (λ x. absurd (no_refusal s _ r t x)) (λ _ h6.
    either O h6 (λ x. absurd (no_refusal s _ r t x)) (λ _ h7.
    either O h7 (λ x. absurd (no_refusal s _ r t x)) (λ _ h8.
    either O h8 (λ x. absurd (no_refusal s _ r t x)) (λ _ h9.
    either O h9 (λ x. absurd (no_refusal s _ r t x)) (λ _ h10.
    either O h10 (λ x. absurd (no_refusal s _ r t x)) (λ _ h11.
    either O h11 (λ x. absurd (no_refusal s _ r t x)) (λ _ h12. (good, replied_new h12)))))))))))))

-- ---- a command changes nothing, or it is accepted and has room

pub data Outcome (l : Limits) (s : Machine) (c : Command) (e : Ending) : Type 0 where
  stays : e.state ≡ s → Outcome l s c e
  goes : Accepts s c e → ((d : Ending) → Refuses s (IsFull l s c) d → ⊥) → Outcome l s c e

refuse : (l : Limits) (s : Machine) (c : Command) (test : Refusal → Type 0) (e : Ending) → Refuses s test e → Outcome l s c e
refuse l s c test e h = stays (ap (λ (x : Ending). x.state) h.2)

pub outcome : (l : Limits) (s : Machine) (c : Command) (e : Ending) → Ends l s c e → Outcome l s c e
outcome l s (import_file name user body) e h =
    let c = import_file name user body in
    let O : Type 0 = Outcome l s c e in
    either O h (λ x. refuse l s c _ e x) (λ _ h1.
    either O h1 (λ x. stays (ap (λ (y : Ending). y.state) x.4)) (λ _ h2.
    either O h2 (λ x. refuse l s c _ e x) (λ _ h3.
    either O h3 (λ x. refuse l s c _ e x) (λ _ h4.
    either O h4 (λ x. refuse l s c _ e x) (λ _ h5.
    either O h5 (λ x. refuse l s c _ e x) (λ _ h6.
    either O h6 (λ x. refuse l s c _ e x) (λ _ h7.
    either O h7 (λ x. refuse l s c _ e x) (λ room h8. goes h8 room))))))))
outcome l s (event_on name event user) e h =
    let c = event_on name event user in
    let O : Type 0 = Outcome l s c e in
    either O h (λ x. refuse l s c _ e x) (λ _ h1.
    either O h1 (λ x. refuse l s c _ e x) (λ _ h2.
    either O h2 (λ x. refuse l s c _ e x) (λ _ h3.
    either O h3 (λ x. refuse l s c _ e x) (λ room h4. goes h4 room))))
outcome l s (correct n base user body) e h =
    let c = correct n base user body in
    let O : Type 0 = Outcome l s c e in
    either O h (λ x. refuse l s c _ e x) (λ _ h1.
    either O h1 (λ x. refuse l s c _ e x) (λ _ h2.
    either O h2 (λ x. stays (ap (λ (y : Ending). y.state) x.7)) (λ _ h3.
    either O h3 (λ x. refuse l s c _ e x) (λ _ h4.
    either O h4 (λ x. refuse l s c _ e x) (λ _ h5.
    either O h5 (λ x. refuse l s c _ e x) (λ _ h6.
    either O h6 (λ x. refuse l s c _ e x) (λ _ h7.
    either O h7 (λ x. refuse l s c _ e x) (λ _ h8.
    either O h8 (λ x. refuse l s c _ e x) (λ _ h9.
    either O h9 (λ x. refuse l s c _ e x) (λ _ h10.
    either O h10 (λ x. refuse l s c _ e x) (λ _ h11.
    either O h11 (λ x. refuse l s c _ e x) (λ room h12. goes h12 room))))))))))))
outcome l s (pull n user) e h =
    let c = pull n user in
    let O : Type 0 = Outcome l s c e in
    either O h (λ x. refuse l s c _ e x) (λ _ h1.
    either O h1 (λ x. refuse l s c _ e x) (λ _ h2.
    either O h2 (λ x. refuse l s c _ e x) (λ _ h3.
    either O h3 (λ x. refuse l s c _ e x) (λ room h4. goes h4 room))))
outcome l s (restore n user) e h =
    let c = restore n user in
    let O : Type 0 = Outcome l s c e in
    either O h (λ x. refuse l s c _ e x) (λ _ h1.
    either O h1 (λ x. refuse l s c _ e x) (λ _ h2.
    either O h2 (λ x. refuse l s c _ e x) (λ _ h3.
    either O h3 (λ x. refuse l s c _ e x) (λ room h4. goes h4 room))))
