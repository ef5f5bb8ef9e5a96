-- The numbers that the tables store for states and kinds of moves.
use Rattle.std.specs.Prelude.{ℕ, Option, Some, None}
use Rattle.tb_core.specs.declared.kinds.State.{State}
use Rattle.tb_core.specs.declared.kinds.State.TheVariants.{Opened, Assigned, Submitted, Adjudicated, Released}
use Rattle.tb_core.specs.declared.kinds.State.TheVariants.{Withdrawn}
use Rattle.tb_core.specs.declared.kinds.Event.{Event}
use Rattle.tb_core.specs.declared.kinds.Event.TheVariants.{Assign, Unassign, Submit, SendBack, Adjudicate, Release}
use Rattle.tb_core.specs.declared.kinds.Event.TheVariants.{Withdraw, Reopen}
use Rattle.tb_core.specs.declared.kinds.Kind.{Kind}
use Rattle.tb_core.specs.declared.kinds.Kind.TheVariants.{Import, Step, Correct, Pull, Restore}

abbrev pub state_number : State → ℕ
state_number Opened = 1
state_number Assigned = 2
state_number Submitted = 3
state_number Adjudicated = 4
state_number Released = 5
state_number Withdrawn = 6

-- 0 where there is no state before
abbrev pub from_number : Option State → ℕ
from_number None = 0
from_number (Some st) = state_number st

abbrev pub event_number : Event → ℕ
event_number Assign = 2
event_number Unassign = 3
event_number Submit = 4
event_number SendBack = 5
event_number Adjudicate = 6
event_number Release = 7
event_number Withdraw = 8
event_number Reopen = 9

abbrev pub kind_number : Kind → ℕ
kind_number Import = 1
kind_number (Step event) = event_number event
kind_number Correct = 10
kind_number Pull = 11
kind_number Restore = 12
