-- Between crates: no contract of a front door cites a definition of this module.
-- What is known of a store that was read as a desk.
use Rattle.std.specs.Prelude.{◌≡◌, ◌≤◌, Result, Err}
use Rattle.sqlite.specs.Store.{Ghosts}
use Rattle.sqlite.specs.Held.{Held, state}
use Rattle.sqlite.specs.State.{HasCleanDisk}
use Rattle.tb_core.specs.declared.refusals.Fault.{Fault}
use Rattle.tb_core.specs.declared.refusals.Fault.TheVariants.{NotADesk}
use Rattle.tb_core.specs.Machine.{Machine}
use Rattle.tb_verify.specs.declared.summary.DeskSummary.{DeskSummary}

-- its counts are within the largest limits
abbrev pub HasFewCounts : DeskSummary → Type 0
HasFewCounts x = (x.batches ≤ x.moves) × (x.sentences ≤ 1000000) × (x.moves ≤ 1000000000)

-- it is called no desk only where it is one of no state (`IsDesk s` says of which it is)
abbrev pub CallsNoneOf : {S X : Type 0} → (Machine → Type 0) → Ghosts S → Held S → Result X Fault → Type 0
CallsNoneOf IsDesk g new result = HasCleanDisk (state g new) → result ≡ Err NotADesk → (s : Machine) → IsDesk s → ⊥

-- and then it is as it was
abbrev pub LeavesNoDesk : {S X : Type 0} → Ghosts S → Held S → Held S → Result X Fault → Type 0
LeavesNoDesk g old new result =
    HasCleanDisk (state g new) → result ≡ Err NotADesk → (state g new).now ≡ (state g old).now
