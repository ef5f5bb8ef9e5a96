-- The tables of version 1, as they were before a sentence could be pulled.
use Rattle.std.specs.Prelude.{◌≡◌, ℤ, pos, false, None, [], ◌∷◌, map, Result, IfErr, IsTrue}
use Rattle.sqlite.specs.declared.types.Value.TheVariants.{Int}
use Rattle.sqlite.specs.Order.{Row, column}
use Rattle.sqlite.specs.Tree.{Trees}
use Rattle.sqlite.specs.Store.{Ghosts}
use Rattle.sqlite.specs.Held.{Held, state}
use Rattle.sqlite.specs.State.{State, HasCleanDisk}
use Rattle.tb_tables.specs.Layout.{version_one_schema}
use Rattle.tb_tables.specs.Records.{Tables, Shows, numbered, batch_shown, sentence_shown, revision_shown, move_shown}
use Rattle.tb_tables.specs.Records.{total_shown, batch_view, sentence_view, revision_view, move_view, total_view}

-- the number of a row of `meta`, and the version
abbrev pub versioned_view : Row → Row
versioned_view r = column r 0 ∷ column r 1 ∷ []

-- there is one row, with any number, and it names version 1
abbrev pub TellsFirst : Trees → Type 0
TellsFirst trees = (n : ℤ) × Shows versioned_view ((Int n ∷ Int (pos 1) ∷ []) ∷ []) (trees 0)

-- each of the six tables shows its records; nothing is said of pulled sentences
pub record AreStoredInVersion1 (d : Tables) (trees : Trees) : Type 0 where
  pub meta : TellsFirst trees
  pub batches : Shows batch_view (numbered batch_shown 1 d.batches) (trees 1)
  pub sentences : Shows sentence_view (numbered sentence_shown 1 d.sentences) (trees 3)
  pub revisions : Shows revision_view (map revision_shown d.revisions) (trees 5)
  pub moves : Shows move_view (numbered move_shown 1 d.moves) (trees 7)
  pub totals : Shows total_view (numbered total_shown 1 d.totals) (trees 8)

-- an error on the six tables, where there is no limit on steps, is such a fault
abbrev pub FailsOnlyAsFirst : {S X E : Type 0} → (E → Type 0) → Ghosts S → Held S → Held S → Result X E
    → Type 0
FailsOnlyAsFirst IsFault g old new result =
    HasCleanDisk (state g new) → (state g old).step_limit ≡ None → (state g old).now.schema ≡ version_one_schema
    → IfErr result IsFault

-- a transaction is open on the six tables
pub record IsInsideFirst (s : State) : Type 0 where
  pub begun : IsTrue s.in_transaction
  pub schema : s.now.schema ≡ version_one_schema

-- a connection in no transaction; its six tables represent these records, now and after each crash
pub record HoldsFirst {S : Type 0} (g : Ghosts S) (c : Held S) (d : Tables) : Type 0 where
  pub autocommit : c.in_transaction ≡ false
  pub is_open : IsTrue (state g c).is_open
  pub schema : (state g c).now.schema ≡ version_one_schema
  pub settled : (state g c).committed ≡ (state g c).now
  pub stands : AreStoredInVersion1 d (state g c).now.trees
