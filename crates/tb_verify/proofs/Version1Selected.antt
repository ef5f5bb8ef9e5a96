-- The rows that SELECT shows of a table of version 1.
use Rattle.std.specs.Prelude.{◌≡◌, ◌≢◌, ℕ, false, List, All, map, Result, IfOk, OnOk, IsTrue, IsPermutation}
use Rattle.sqlite.specs.Order.{Row}
use Rattle.sqlite.specs.Store.{Ghosts}
use Rattle.sqlite.specs.Held.{Held, state}
use Rattle.sqlite.specs.State.{HasCleanDisk, IsUnchanged, Survives}
use Rattle.sqlite.specs.declared.error.Error.{Error}
use Rattle.sqlite_trees.specs.Tree.{IsAscending, Trees}
use Rattle.tb_tables.specs.Layout.{version_one_schema}
use Rattle.tb_tables.specs.Failing.{IsWant}
use Rattle.tb_tables.specs.Leaving.{IsFaultless}
use Rattle.tb_tables.specs.Records.{Tables, Revision, Shows, numbered, revision_shown, revision_view}
use Rattle.tb_reads.specs.Readable.{IsRevision, ComesBefore}
use Rattle.tb_verify.specs.Version1.{HoldsFirst, FailsOnlyAsFirst}

-- in some order, what the rows of a table show
abbrev pub AreRows : (Row → Row) → ℕ → List Row → Trees → Type 0
AreRows view tree rows trees = IsPermutation (map view (trees tree)) rows

-- and where they show records that are numbered, in their order
abbrev pub AreOrdered : {X : Type 0} → (Row → Row) → (ℕ → X → Row) → ℕ → List Row → Trees
    → Type 0
AreOrdered {X} view shown tree rows trees = AreRows view tree rows trees
    × ((xs : List X) → Shows view (numbered shown 1 xs) (trees tree) → rows ≡ numbered shown 1 xs)

-- and where they show revisions, by sentence and number
abbrev pub AreRevisions : List Row → Trees → Type 0
AreRevisions rows trees = AreRows revision_view 5 rows trees × ((xs : List Revision) → All IsRevision xs
    → IsAscending ComesBefore xs → Shows revision_view (map revision_shown xs) (trees 5)
    → rows ≡ map revision_shown xs)

-- On the schema of version 1: the rows are these. An error, with no limit on steps, is want of memory where the store
-- was open and its disk failed at nothing. Whatever is answered, nothing is changed.
pub record HasSelected {S X : Type 0} (g : Ghosts S) (old new : Held S) (result : Result X Error) (Are : X → Trees
    → Type 0) : Type 0 where
  pub are : HasCleanDisk (state g new) → IfOk result (λ x. (state g old).now.schema ≡ version_one_schema
      → Are x (state g old).now.trees)
  pub cause : IsFaultless g old new → FailsOnlyAsFirst IsWant g old new result
  pub same : HasCleanDisk (state g new) → OnOk result ((state g old).now.schema ≡ version_one_schema
      → IsUnchanged (state g old) (state g new))
  pub mode : old.in_transaction ≡ false → new.in_transaction ≡ false
  pub kept : HasCleanDisk (state g new) → IsTrue (state g new).is_open → (d : Tables) → HoldsFirst g old d
      → HoldsFirst g new d
  pub commits_nothing : Survives (state g old) (state g new) (λ _. (state g old).now.schema ≢ version_one_schema)
