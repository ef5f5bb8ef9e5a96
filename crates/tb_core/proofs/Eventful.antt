-- How an event ends, by the batch that was found.
use Rattle.std.proofs.Common.{◌≡◌, ℕ, ◌+◌, ◌-◌, List, length, Bool, true, false, ◌&&◌, cond, Some, Result, Ok, Err, refl, sym, ◌∙◌, ap, subst, arith}
use Rattle.std.specs.Prelude.{nat_le, bytes_eq}
use Rattle.tb_core.specs.declared.kinds.State.{State}
use Rattle.tb_core.specs.declared.kinds.Event.{Event}
use Rattle.tb_core.specs.declared.kinds.Worker.{Worker}
use Rattle.tb_core.specs.declared.limits.Limits.{Limits}
use Rattle.tb_core.specs.declared.refusals.Refusal.{Refusal}
use Rattle.tb_core.specs.declared.refusals.Refusal.TheVariants.{WrongState, NotYours, OwnWork, Full}
use Rattle.tb_core.specs.Names.{is_name}
use Rattle.tb_core.specs.Events.{Asker, anyone, the_worker, not_the_worker, event_row, leads_from, goes_to, makes_worker}
use Rattle.tb_core.specs.Deciding.{allowed, event_decision}
use Rattle.tb_core.specs.Machine.{Batch, Machine}
use Rattle.tb_core.specs.Acts.{stepping, IsAllowed, after}
use Rattle.tb_core.specs.Reaching.{Reached, has_room}
use Rattle.tb_core.specs.Commands.{event_on, replied, refused, Ending, HasBatch, reply_to}
use Rattle.tb_core.specs.Tests.{reported, passed, Refuses, IsNoBatch, IsEventRefused, IsFull}
use Rattle.tb_core.specs.Steps.{Steps}
use Rattle.tb_core.proofs.Chains.{not_bad_name, second_good}
use Rattle.tb_core.proofs.Keeps.{well}
use Rattle.tb_core.specs.Found.{BatchSeen, FindsBatch, place_of}
use Rattle.tb_core.proofs.FoundOnce.{not_free, batch_once}

-- ---- what a decision makes

allowed_makes : {X : Type 0} (asker : Asker) (worker user : List ℕ) (x y : X) → allowed asker worker user x ≡ Ok y → y ≡ x
allowed_makes anyone worker user x y e = cc
allowed_makes the_worker worker user x y e = by_test (bytes_eq worker user) x y e where
  by_test : {X : Type 0} (t : Bool) (x y : X) → cond t (let z : Result X Refusal = Ok x in z) (Err NotYours) ≡ Ok y → y ≡ x
  by_test true x y e = cc
  by_test false x y e = absurd (cc)
allowed_makes not_the_worker worker user x y e = by_test (bytes_eq worker user) x y e where
  by_test : {X : Type 0} (t : Bool) (x y : X) → cond t (let z : Result X Refusal = Err OwnWork in z) (Ok x) ≡ Ok y → y ≡ x
  by_test true x y e = absurd (cc)
  by_test false x y e = cc

leading_makes : {X : Type 0} (t : Bool) (state : State) (r : Result X Refusal) (x y : X) → cond t r (Err (WrongState state)) ≡ Ok y → (r ≡ Ok y → y ≡ x) → y ≡ x
leading_makes true state r x y e h = h e
leading_makes false state r x y e h = absurd (cc)

-- an event that is allowed makes what its row says
pub event_makes : (state : State) (worker : List ℕ) (event : Event) (user : List ℕ) (made : State × Worker) → event_decision state worker event user ≡ Ok made → made ≡ (goes_to event, makes_worker event)
event_makes state worker event user made e =
    let makes : State × Worker = (goes_to event, makes_worker event) in
    leading_makes (leads_from event state) state (allowed (event_row event).asker worker user makes) makes made e (allowed_makes (event_row event).asker worker user makes made)

-- ---- how it ends

abbrev Decides : Batch → Event → List ℕ → Result (State × Worker) Refusal → Type 0
Decides b event user r = event_decision b.state b.worker event user ≡ r

-- what was found decides as what stands
decided_there : (f : BatchSeen) (b : Batch) (event : Event) (user : List ℕ) (r : Result (State × Worker) Refusal) → f.state ≡ b.state → f.worker ≡ b.worker → event_decision f.state f.worker event user ≡ r → Decides b event user r
decided_there f b event user r p q e = ap (λ z. event_decision z b.worker event user) (sym p) ∙ (ap (λ z. event_decision f.state z event user) (sym q) ∙ e)

stands : (s : Machine) (name : List ℕ) (place : ℕ) (b : Batch) → HasBatch s name place b → (d : Ending) → Refuses s (IsNoBatch s name) d → ⊥
stands s name place b has d h = not_free s name place b has h.1.0

pub event_refused : (l : Limits) (s : Machine) (name : List ℕ) (event : Event) (user : List ℕ) (f : BatchSeen) (r : Refusal) → (is_name name && is_name user) ≡ true → FindsBatch s name (Some f)
    → event_decision f.state f.worker event user ≡ Err r → Steps l s (event_on name event user) (refused r) s
event_refused l s name event user f r good (place, b, has, n, p, q) e =
    passed (not_bad_name s (is_name name && is_name user) good) (passed (stands s name place b has)
    (reported (r, (place, b, has, decided_there f b event user (Err r) p q e), refl)))

allows : (s : Machine) (name : List ℕ) (event : Event) (user : List ℕ) (place : ℕ) (b : Batch) (made : State × Worker) → Reached s → HasBatch s name place b → Decides b event user (Ok made)
    → (d : Ending) → Refuses s (IsEventRefused s name event user) d → ⊥
allows s name event user place b made reached has e d h =
    let same = batch_once s name h.1.0 place h.1.1 b (well s reached) h.1.2 has in
    let other : Decides b event user (Err h.0) = subst (λ (c : Batch). Decides c event user (Err h.0)) same h.1.3 in
    let both : Err h.0 ≡ Ok made = sym other ∙ e in
    absurd (cc)

pub event_full : (l : Limits) (s : Machine) (name : List ℕ) (event : Event) (user : List ℕ) (f : BatchSeen) (made : State × Worker) → Reached s → (is_name name && is_name user) ≡ true → FindsBatch s name (Some f)
    → event_decision f.state f.worker event user ≡ Ok made → nat_le (length s.moves + 1) l.moves ≡ false → Steps l s (event_on name event user) (refused Full) s
event_full l s name event user f made reached good (place, b, has, n, p, q) e full =
    passed (not_bad_name s (is_name name && is_name user) good) (passed (stands s name place b has)
    (passed (allows s name event user place b made reached has (decided_there f b event user (Ok made) p q e))
    (reported (Full, (stepping place event user, (place, b, has, refl), full, refl), refl))))

-- an event wants room for its move alone
room_left : (l : Limits) (s : Machine) (name : List ℕ) (event : Event) (user : List ℕ) → nat_le (length s.moves + 1) l.moves ≡ true → (d : Ending) → Refuses s (IsFull l s (event_on name event user)) d → ⊥
room_left l s name event user room d h =
    let none : nat_le (length s.moves + 1) l.moves ≡ false = sym (ap (has_room l s) h.1.1.3) ∙ h.1.2 in
    let both : true ≡ false = sym room ∙ none in
    absurd (cc)

abbrev pub Accepted : Limits → Machine → List ℕ → Event → List ℕ → ℕ → Type 0
Accepted l s name event user place =
    IsAllowed s (stepping place event user) × Steps l s (event_on name event user) (replied (reply_to s (stepping place event user))) (after s (stepping place event user))

at_place : (l : Limits) (s : Machine) (name : List ℕ) (event : Event) (user : List ℕ) (place : ℕ) (b : Batch) (made : State × Worker) → Reached s → (is_name name && is_name user) ≡ true → HasBatch s name place b
    → Decides b event user (Ok made) → nat_le (length s.moves + 1) l.moves ≡ true → Accepted l s name event user place
at_place l s name event user place b made reached good has e room =
    let allowed_here : IsAllowed s (stepping place event user) = record {
      by = second_good (is_name name) (is_name user) good;
      batch = b;
      there = has.there;
      decided = e ∙ ap (λ (m : State × Worker). let z : Result (State × Worker) Refusal = Ok m in z) (event_makes b.state b.worker event user made e);
    } in (
      allowed_here,
      passed (not_bad_name s (is_name name && is_name user) good) (passed (stands s name place b has)
          (passed (allows s name event user place b made reached has e)
          (passed (room_left l s name event user room)
          (stepping place event user, (place, b, has, refl), allowed_here, refl)))),
    )

pub event_accepted : (l : Limits) (s : Machine) (name : List ℕ) (event : Event) (user : List ℕ) (f : BatchSeen) (made : State × Worker) → Reached s → (is_name name && is_name user) ≡ true → FindsBatch s name (Some f)
    → event_decision f.state f.worker event user ≡ Ok made → nat_le (length s.moves + 1) l.moves ≡ true → Accepted l s name event user (place_of (Some f))
event_accepted l s name event user f made reached good (place, b, has, n, p, q) e room =
    let counted : place ≡ f.number - 1 = omega (arith, n) in
    subst (Accepted l s name event user) counted (at_place l s name event user place b made reached good has (decided_there f b event user (Ok made) p q e) room)
