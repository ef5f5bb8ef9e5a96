-- Inner: no contract beyond this crate cites a definition of this module.
-- A read of tables: what it says of them, and what it leaves of the connection.
use Rattle.std.specs.Prelude.{◌≡◌, ◌≢◌, Result, Err, IfOk, is_ok}
use Rattle.sqlite.specs.Store.{Ghosts}
use Rattle.sqlite.specs.Held.{Held, state}
use Rattle.sqlite.specs.State.{HasCleanDisk, IsUnchanged}
use Rattle.sqlite_trees.specs.Tree.{Trees}
use Rattle.tb_core.specs.declared.refusals.Fault.{Fault}
use Rattle.tb_core.specs.declared.refusals.Fault.TheVariants.{Refused, Device, NotADesk, Output}
use Rattle.tb_core.specs.declared.refusals.Refusal.{Refusal}
use Rattle.tb_core.specs.Machine.{Machine}
use Rattle.tb_core.specs.Reaching.{IsReachable}
use Rattle.tb_tables.specs.Layout.{desk_schema}
use Rattle.tb_tables.specs.Records.{Tables, AreStored}
use Rattle.tb_tables.specs.Leaving.{IsFaultless, FailsOnlyAs}
use Rattle.tb_reads.specs.Failing.{SeesAsBefore}
use Rattle.tb_reads.specs.ReadOnly.{IsReadOnly}
use Rattle.tb_refine.specs.DeskTables.{tables_of}

-- On the schema of a desk, the trees show what is read (IsShown). Where the trees represent a reachable state, it is
-- what the tables of this state hold (IsHeld). `NotADesk` comes only where they represent no such state. `Device`,
-- with no limit on steps, comes only where the disk failed or the store was shut. Nothing is changed.
pub record HasReadTable {S X : Type 0} (g : Ghosts S) (old new : Held S) (result : Result X Fault) (IsShown : X
    → Trees → Type 0) (IsHeld : X → Tables → Type 0) : Type 0 where
  pub shown : HasCleanDisk (state g new) → IfOk result (λ x. (state g old).now.schema ≡ desk_schema
      → IsShown x (state g old).now.trees)
  pub reported : HasCleanDisk (state g new) → IfOk result (λ x. (state g old).now.schema ≡ desk_schema
      → (s : Machine) → IsReachable s → AreStored (tables_of s) (state g old).now.trees
      → IsHeld x (tables_of s))
  pub unfit : HasCleanDisk (state g new) → result ≡ Err NotADesk → (state g old).now.schema ≡ desk_schema
      → (s : Machine) → IsReachable s → AreStored (tables_of s) (state g old).now.trees → ⊥
  pub untouched : HasCleanDisk (state g new) → result ≡ Err NotADesk → (state g old).now.schema ≡ desk_schema
      → IsUnchanged (state g old) (state g new)
  pub sees : SeesAsBefore g old new
  pub refused : (r : Refusal) → result ≢ Err (Refused r)
  pub output : result ≢ Err Output
  pub cause : IsFaultless g old new → FailsOnlyAs (λ (fault : Fault). fault ≢ Device) g old new result
  pub read_only : IsReadOnly g old new (is_ok result)
