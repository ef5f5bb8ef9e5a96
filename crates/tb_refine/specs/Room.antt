-- When no size keeps SQLite from writing what a command says.
use Rattle.std.specs.Prelude.{ℕ, ◌<◌, List, length}
use Rattle.sqlite.specs.State.{State}
use Rattle.tb_core.specs.declared.limits.Limits.{Limits}
use Rattle.tb_core.specs.Machine.{Machine}
use Rattle.tb_core.specs.Commands.{Command, Reply, replied}
use Rattle.tb_core.specs.Steps.{Steps}
use Rattle.tb_tables.specs.Changes.{HasRevisionRowids}
use Rattle.tb_tables.specs.Failing.{IsShort}

-- A command that writes anything has room: its body is short, and SQLite has rowids left for so many revisions.
abbrev pub HasRoomIfWritten : Limits → Machine → Command → (body : List ℕ) → (revisions : ℕ) → State → Type 0
HasRoomIfWritten l s command body revisions store =
    (reply : Reply) (t : Machine) → Steps l s command (replied reply) t → length s.moves < length t.moves
    → IsShort body × HasRevisionRowids store revisions
