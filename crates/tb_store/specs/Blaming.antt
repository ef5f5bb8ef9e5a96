-- When a call may blame the device. While the store is open and its disk fails at nothing (`IsFaultless`), it may not,
-- with one exception: a command whose desk is in doubt.
use Rattle.std.specs.Prelude.{◌≡◌, ◌⊎◌, Result, Err, IfErr, IsTrue, None}
use Rattle.sqlite.specs.Store.{Ghosts}
use Rattle.sqlite.specs.Held.{Held, state}
use Rattle.sqlite.specs.State.{HasCleanDisk}
use Rattle.tb_core.specs.declared.refusals.Fault.{Fault}
use Rattle.tb_core.specs.declared.refusals.Fault.TheVariants.{Device}
use Rattle.tb_core.specs.Machine.{Machine}
use Rattle.tb_tables.specs.Leaving.{IsFaultless}
use Rattle.tb_refine.specs.DeskTables.{IsDeskOf}
use Rattle.tb_refine.specs.Faults.{IsNoDevice}
use Rattle.tb_store.specs.Kept.{Kept}
use Rattle.tb_store.specs.Calls.{InState, IsDurable}

-- for a call on the connection of a desk, without a step limit
abbrev pub FailsWithoutDevice : {S X : Type 0} → Ghosts S → Held S → Held S → Result X Fault → Type 0
FailsWithoutDevice g old new result =
    IsFaultless g old new → HasCleanDisk (state g new) → (state g old).step_limit ≡ None
    → (s : Machine) → IsDeskOf g old s → IfErr result IsNoDevice

-- for a call on a desk
abbrev pub BlamesNoDevice : {S X : Type 0} → Ghosts S → Kept S → Kept S → Result X Fault → Type 0
BlamesNoDevice g old new result = InState g old new (λ s. IsFaultless g old.conn new.conn → IfErr result IsNoDevice)

-- Where a command on a desk blames the device although nothing failed, the desk is in doubt, and durably represents its
-- state. `IsSo s so` is `so` under the premises of the command.
abbrev pub BlamesInDoubtAlone : {S X : Type 0} → Ghosts S → Kept S → Kept S → Result X Fault
    → (Machine → Type 0 → Type 0)
    → Type 0
BlamesInDoubtAlone g old new result IsSo = InState g old new (λ s. IsFaultless g old.conn new.conn
    → IsSo s (IfErr result (λ e. e ≡ Device → IsTrue new.in_doubt × IsDurable g new s)))

-- a command puts the desk in doubt only where it blames the device
abbrev pub DoubtsOnDevice : {S X : Type 0} → (old new : Kept S) → Result X Fault → Type 0
DoubtsOnDevice old new result = IsTrue new.in_doubt → IsTrue old.in_doubt ⊎ (result ≡ Err Device)
