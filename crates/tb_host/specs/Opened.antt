-- A desk that the program has opened in a file, or made in memory.
use Rattle.std.specs.Prelude.{◌≡◌, false}
use Rattle.sqlite.specs.Store.{Ghosts}
use Rattle.sqlite.specs.Held.{state}
use Rattle.sqlite.specs.State.{HasCleanDisk}
use Rattle.tb_core.specs.declared.limits.Limits.{Limits}
use Rattle.tb_core.specs.Machine.{Machine, empty_machine}
use Rattle.tb_store.specs.Kept.{Kept}
use Rattle.tb_store.specs.Represents.{Represents}

-- the limits of every desk of the program
abbrev pub desk_limits : Limits
desk_limits = record { sentences = 1000000; moves = 1000000000; hits = 1000000 }

-- a desk of the program, without a batch; none that was just opened is in doubt
abbrev pub IsEmptyDesk : {S : Type 0} → Ghosts S → Kept S → Type 0
IsEmptyDesk g d = (d.limits ≡ desk_limits) × (d.in_doubt ≡ false) × Represents g d empty_machine

-- a desk of the program, which represents a state that accepted commands reach
abbrev pub IsSomeDesk : {S : Type 0} → Ghosts S → Kept S → Type 0
IsSomeDesk g d = (d.limits ≡ desk_limits) × (d.in_doubt ≡ false)
    × (HasCleanDisk (state g d.conn) → (s : Machine) × Represents g d s)

-- a desk of the program that was just made, without a batch
abbrev pub IsMadeDesk : {S : Type 0} → Ghosts S → Kept S → Type 0
IsMadeDesk g d = (d.limits ≡ desk_limits) × (d.in_doubt ≡ false)
    × (HasCleanDisk (state g d.conn) → Represents g d empty_machine)
