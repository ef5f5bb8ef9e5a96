-- Decisions from the state of a batch, its worker and the user, with the refusals in their order.
use Rattle.std.specs.Prelude.{ℕ, List, Bool, cond, bytes_eq, nat_eq, Result, Ok, Err}
use Rattle.tb_core.specs.declared.kinds.State.{State}
use Rattle.tb_core.specs.declared.kinds.State.TheVariants.{Opened, Assigned, Submitted, Adjudicated, Released}
use Rattle.tb_core.specs.declared.kinds.State.TheVariants.{Withdrawn}
use Rattle.tb_core.specs.declared.kinds.Event.{Event}
use Rattle.tb_core.specs.declared.kinds.Worker.{Worker}
use Rattle.tb_core.specs.declared.refusals.Refusal.{Refusal}
use Rattle.tb_core.specs.declared.refusals.Refusal.TheVariants.{WrongState, NotYours, OwnWork, Stale, Pulled, NotPulled}
use Rattle.tb_core.specs.Events.{is_state, Asker, anyone, the_worker, not_the_worker, event_row, leads_from, goes_to}
use Rattle.tb_core.specs.Events.{makes_worker}

-- whether the user is one of those who may ask
abbrev pub allowed : {X : Type 0} → Asker → List ℕ → List ℕ → X → Result X Refusal
allowed anyone worker user x = Ok x
allowed the_worker worker user x = cond (bytes_eq worker user) (Ok x) (Err NotYours)
allowed not_the_worker worker user x = cond (bytes_eq worker user) (Err OwnWork) (Ok x)

-- an event: where the batch goes and what becomes of its worker
abbrev pub event_decision : State → List ℕ → Event → List ℕ → Result (State × Worker) Refusal
event_decision s worker e user = cond (leads_from e s) (allowed (event_row e).asker worker user (
  goes_to e,
  makes_worker e,
)) (Err (WrongState s))

-- who may correct a sentence in this state: its worker while it is assigned, the others once it is submitted
abbrev pub may_correct : State → List ℕ → List ℕ → Result (Unit {0}) Refusal
may_correct Opened worker user = Err (WrongState Opened)
may_correct Assigned worker user = allowed the_worker worker user tt
may_correct Submitted worker user = allowed not_the_worker worker user tt
may_correct Adjudicated worker user = Err (WrongState Adjudicated)
may_correct Released worker user = Err (WrongState Released)
may_correct Withdrawn worker user = Err (WrongState Withdrawn)

-- only the current revision is corrected
abbrev pub current_only : ℕ → ℕ → Result (Unit {0}) Refusal
current_only base current = cond (nat_eq base current) (Ok tt) (Err (Stale current))

abbrev pub then_current : Result (Unit {0}) Refusal → ℕ → ℕ → Result (Unit {0}) Refusal
then_current (Ok u) base current = current_only base current
then_current (Err e) base current = Err e

-- the user may correct a sentence in this state, made on this revision, which has to be current
abbrev pub correct_decision : State → List ℕ → List ℕ → ℕ → ℕ → Result (Unit {0}) Refusal
correct_decision s worker user base current = then_current (may_correct s worker user) base current

-- a pull, by the state of the batch
abbrev pub pull_decision : State → Bool → Result (Unit {0}) Refusal
pull_decision s pulled = cond (is_state s Withdrawn) (Err (WrongState s)) (cond pulled (Err Pulled) (Ok tt))

-- a restore, by the state of the batch, in which the sentence then is
abbrev pub restore_decision : State → Bool → Result State Refusal
restore_decision s pulled = cond (is_state s Withdrawn) (Err (WrongState s)) (cond pulled (Ok s) (Err NotPulled))
