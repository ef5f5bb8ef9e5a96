-- The words for states, events and kinds of moves.
use Rattle.std.specs.Prelude.{ℕ, List, codes}
use Rattle.tb_core.specs.declared.kinds.State.{State}
use Rattle.tb_core.specs.declared.kinds.State.TheVariants.{Opened, Assigned, Submitted, Adjudicated, Released}
use Rattle.tb_core.specs.declared.kinds.State.TheVariants.{Withdrawn}
use Rattle.tb_core.specs.declared.kinds.Event.{Event}
use Rattle.tb_core.specs.declared.kinds.Event.TheVariants.{Assign, Unassign, Submit, SendBack, Adjudicate, Release}
use Rattle.tb_core.specs.declared.kinds.Event.TheVariants.{Withdraw, Reopen}
use Rattle.tb_core.specs.declared.kinds.Kind.{Kind}
use Rattle.tb_core.specs.declared.kinds.Kind.TheVariants.{Import, Step, Correct, Pull, Restore}

abbrev pub state_word : State → List ℕ
state_word Opened = codes "open"
state_word Assigned = codes "assigned"
state_word Submitted = codes "submitted"
state_word Adjudicated = codes "adjudicated"
state_word Released = codes "released"
state_word Withdrawn = codes "withdrawn"

abbrev pub event_word : Event → List ℕ
event_word Assign = codes "assign"
event_word Unassign = codes "unassign"
event_word Submit = codes "submit"
event_word SendBack = codes "send-back"
event_word Adjudicate = codes "adjudicate"
event_word Release = codes "release"
event_word Withdraw = codes "withdraw"
event_word Reopen = codes "reopen"

abbrev pub kind_word : Kind → List ℕ
kind_word Import = codes "import"
kind_word (Step event) = event_word event
kind_word Correct = codes "correct"
kind_word Pull = codes "pull"
kind_word Restore = codes "restore"
