-- Inner: no contract beyond this crate cites a definition of this module.
-- A read of the tables of version 1: what it says of them, and what it leaves of the connection.
use Rattle.std.specs.Prelude.{◌≡◌, ◌≢◌, false, List, [], map, Result, Err, IfOk, OnOk, IsTrue}
use Rattle.sqlite.specs.Store.{Ghosts}
use Rattle.sqlite.specs.Held.{Held, state}
use Rattle.sqlite.specs.State.{HasCleanDisk, IsUnchanged, Survives}
use Rattle.sqlite_trees.specs.Tree.{Trees}
use Rattle.tb_core.specs.declared.refusals.Fault.{Fault}
use Rattle.tb_core.specs.declared.refusals.Fault.TheVariants.{Refused, Device, NotADesk, Output}
use Rattle.tb_core.specs.declared.refusals.Refusal.{Refusal}
use Rattle.tb_core.specs.Machine.{Machine}
use Rattle.tb_core.specs.Reaching.{IsReachable}
use Rattle.tb_tables.specs.Layout.{version_one_schema}
use Rattle.tb_tables.specs.Leaving.{IsFaultless}
use Rattle.tb_tables.specs.Records.{Tables, Shows, revision_shown, revision_view}
use Rattle.tb_tables.specs.Values.{revision_of}
use Rattle.tb_tables.specs.declared.rows.RevisionRow.{RevisionRow}
use Rattle.tb_refine.specs.DeskTables.{tables_of}
use Rattle.tb_verify.specs.Summary.{tables_in}
use Rattle.tb_verify.specs.declared.summary.TableRows.{TableRows}
use Rattle.tb_verify.specs.Version1.{AreStoredInVersion1, HoldsFirst, FailsOnlyAsFirst}

-- the six tables represent no reachable state
abbrev pub AreOfNoState : Trees → Type 0
AreOfNoState trees = (s : Machine) → IsReachable s → AreStoredInVersion1 (tables_of s) trees → ⊥

-- the rows of the revisions, in the order in which the records of a reachable state have them
abbrev pub AreTheRevisions : List RevisionRow → Trees → Type 0
AreTheRevisions rows trees =
    Shows revision_view (map revision_shown (map revision_of rows)) (trees 5) × ((s : Machine) → IsReachable s
    → Shows revision_view (map revision_shown (tables_of s).revisions) (trees 5)
    → map revision_of rows ≡ (tables_of s).revisions)

-- The rows of all tables, and of no pulled sentence. They are those of each reachable state without a pulled sentence
-- that the tables represent.
pub record AreTheRows (r : TableRows) (trees : Trees) : Type 0 where
  pub stands : AreStoredInVersion1 (tables_in r) trees
  pub unpulled : (tables_in r).pulled ≡ []
  pub whole : (s : Machine) → IsReachable s → (tables_of s).pulled ≡ []
      → AreStoredInVersion1 (tables_of s) trees → tables_in r ≡ tables_of s

-- On the schema of version 1, the trees are as the result says. `NotADesk` comes only where they represent no
-- reachable state. `Device`, with no limit on steps, comes only where the disk failed or the store was shut. Nothing
-- is changed.
pub record HasReadVersion1 {S X : Type 0} (g : Ghosts S) (old new : Held S) (result : Result X Fault) (Are : X → Trees
    → Type 0) : Type 0 where
  pub are : HasCleanDisk (state g new) → IfOk result (λ x. (state g old).now.schema ≡ version_one_schema
      → Are x (state g old).now.trees)
  pub unfit : HasCleanDisk (state g new) → result ≡ Err NotADesk → (state g old).now.schema ≡ version_one_schema
      → AreOfNoState (state g old).now.trees × IsUnchanged (state g old) (state g new)
  pub refused : (r : Refusal) → result ≢ Err (Refused r)
  pub output : result ≢ Err Output
  pub cause : IsFaultless g old new → FailsOnlyAsFirst (λ (fault : Fault). fault ≢ Device) g old new result
  pub same : HasCleanDisk (state g new) → OnOk result ((state g old).now.schema ≡ version_one_schema
      → IsUnchanged (state g old) (state g new))
  pub mode : old.in_transaction ≡ false → new.in_transaction ≡ false
  pub kept : HasCleanDisk (state g new) → IsTrue (state g new).is_open → (d : Tables) → HoldsFirst g old d
      → HoldsFirst g new d
  pub commits_nothing : Survives (state g old) (state g new) (λ _. (state g old).now.schema ≢ version_one_schema)
