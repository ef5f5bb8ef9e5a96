-- The table of events: from which states an event leads, to which, what becomes of the worker, and who may ask for it.
use Rattle.std.specs.Prelude.{ℕ, Bool, not, nat_eq}
use Rattle.tb_core.specs.declared.kinds.State.{State}
use Rattle.tb_core.specs.declared.kinds.State.TheVariants.{Opened, Assigned, Submitted, Adjudicated, Released}
use Rattle.tb_core.specs.declared.kinds.State.TheVariants.{Withdrawn}
use Rattle.tb_core.specs.declared.kinds.Event.{Event}
use Rattle.tb_core.specs.declared.kinds.Event.TheVariants.{Assign, Unassign, Submit, SendBack, Adjudicate, Release}
use Rattle.tb_core.specs.declared.kinds.Event.TheVariants.{Withdraw, Reopen}
use Rattle.tb_core.specs.declared.kinds.Worker.{Worker}
use Rattle.tb_core.specs.declared.kinds.Worker.TheVariants.{Keep, Caller, Cleared}

-- the six states, numbered from 0 in the order of the tables
abbrev pub state_place : State → ℕ
state_place Opened = 0
state_place Assigned = 1
state_place Submitted = 2
state_place Adjudicated = 3
state_place Released = 4
state_place Withdrawn = 5

abbrev pub is_state : State → State → Bool
is_state a b = nat_eq (state_place a) (state_place b)

-- who may ask for an event
pub data Asker : Type 0 where
  anyone : Asker
  the_worker : Asker
  not_the_worker : Asker

pub record Row : Type 0 where
  pub leads_from : State → Bool
  pub goes_to : State
  pub worker : Worker
  pub asker : Asker

abbrev pub row : (State → Bool) → State → Worker → Asker → Row
row from to worker asker = record { leads_from = from; goes_to = to; worker = worker; asker = asker }

-- from one state, or from any but one
abbrev pub only_from : State → State → Bool
only_from a s = is_state s a

abbrev pub any_but : State → State → Bool
any_but a s = not (is_state s a)

-- each row: from, to, what becomes of the worker, who may ask
abbrev pub event_row : Event → Row
event_row Assign = row (only_from Opened) Assigned Caller anyone
event_row Unassign = row (only_from Assigned) Opened Cleared the_worker
event_row Submit = row (only_from Assigned) Submitted Keep the_worker
event_row SendBack = row (only_from Submitted) Assigned Keep not_the_worker
event_row Adjudicate = row (only_from Submitted) Adjudicated Keep not_the_worker
event_row Release = row (only_from Adjudicated) Released Keep anyone
event_row Withdraw = row (any_but Withdrawn) Withdrawn Cleared anyone
event_row Reopen = row (only_from Withdrawn) Opened Cleared anyone

abbrev pub leads_from : Event → State → Bool
leads_from e s = (event_row e).leads_from s

abbrev pub goes_to : Event → State
goes_to e = (event_row e).goes_to

abbrev pub makes_worker : Event → Worker
makes_worker e = (event_row e).worker
