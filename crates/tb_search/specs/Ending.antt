-- Between crates: no contract of a front door cites a definition of this module.
-- How a walk over the text of a desk ends early.
use Rattle.std.specs.Prelude.{◌≡◌, List, All, map, Result, IfErr, None, is_ok}
use Rattle.sqlite.specs.Store.{Ghosts}
use Rattle.sqlite.specs.Held.{Held, state}
use Rattle.sqlite.specs.State.{HasCleanDisk}
use Rattle.sqlite_trees.specs.Tree.{IsAscending}
use Rattle.tb_core.specs.Machine.{Machine}
use Rattle.tb_tables.specs.Layout.{desk_schema}
use Rattle.tb_tables.specs.Leaving.{IsFaultless}
use Rattle.tb_tables.specs.Records.{Revision, Shows, revision_shown, revision_view}
use Rattle.tb_reads.specs.Readable.{IsRevision, ComesBefore}
use Rattle.tb_reads.specs.ReadOnly.{IsReadOnly}
use Rattle.tb_refine.specs.DeskTables.{IsDeskOf}
use Rattle.tb_search.specs.declared.stopped.Stopped.{Stopped}
use Rattle.tb_search.specs.Visited.{IsFault, IsStopFault, IsStopWant}

-- on a desk, its rows and its texts are not the cause
abbrev pub StopsForFault : {S X : Type 0} → Ghosts S → Held S → Held S → Result X Stopped → Type 0
StopsForFault g old new result = HasCleanDisk (state g new) → IfErr result (λ e. (s : Machine) → IsDeskOf g old s
    → IsFault e)

-- and without a step limit, the database refuses nothing
abbrev pub StopsForStore : {S X : Type 0} → Ghosts S → Held S → Held S → Result X Stopped → Type 0
StopsForStore g old new result = HasCleanDisk (state g new) → (state g old).step_limit ≡ None
    → IfErr result (λ e. (s : Machine) → IsDeskOf g old s → IsStopFault e)

-- and where the disk fails at nothing, the cause is want of memory or the sink
abbrev pub StopsForWant : {S X : Type 0} → Ghosts S → Held S → Held S → Result X Stopped → Type 0
StopsForWant g old new result =
    IsFaultless g old new → HasCleanDisk (state g new) → (state g old).step_limit ≡ None
    → IfErr result (λ e. (s : Machine) → IsDeskOf g old s → IsStopWant e)

-- the same for a walk over any revisions, in order, that the tables show
abbrev pub WalksUntilWant : {S X : Type 0} → Ghosts S → Held S → Held S → Result X Stopped → Type 0
WalksUntilWant g old new result =
    IsFaultless g old new → HasCleanDisk (state g new) → (state g old).step_limit ≡ None
    → IfErr result (λ e. (state g old).now.schema ≡ desk_schema
    → (xs : List Revision) → All IsRevision xs → IsAscending ComesBefore xs
    → Shows revision_view (map revision_shown xs) ((state g old).now.trees 5) → IsStopWant e)

-- a read of a desk's sentences: how it ends early, and that the records stay
pub record IsTextRead {S X : Type 0} (g : Ghosts S) (old new : Held S) (result : Result X Stopped) : Type 0 where
  pub fault : StopsForFault g old new result
  pub fails : StopsForStore g old new result
  pub cause : StopsForWant g old new result
  pub read_only : IsReadOnly g old new (is_ok result)
