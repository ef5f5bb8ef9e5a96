-- What a statement changes in the records.
use Rattle.std.specs.Prelude.{◌≡◌, ◌-◌, ◌==◌, ℕ, length, not, false, [], ◌∷◌, ◌++◌, filter, slice_set, IsTrue}
use Rattle.sqlite.specs.Store.{Ghosts}
use Rattle.sqlite.specs.Held.{Held, state}
use Rattle.sqlite.specs.State.{State}
use Rattle.tb_tables.specs.Layout.{desk_schema, revisions}
use Rattle.tb_tables.specs.Records.{Tables, Move, Batch, Sentence, Revision, Total, AreStored}
use Rattle.tb_tables.specs.Failing.{HasRowids}

-- a transaction is open on the seven tables
pub record IsInside (s : State) : Type 0 where
  pub begun : IsTrue s.in_transaction
  pub schema : s.now.schema ≡ desk_schema

-- SQLite finds rowids for `count` more revisions
abbrev pub HasRevisionRowids : State → ℕ → Type 0
HasRevisionRowids s count = HasRowids count (s.now.trees revisions.tree)

-- the transaction goes on, nothing is committed, and where the tables stored the old records, they store the new ones
pub record Changes (old new : State) (d after : Tables) : Type 0 where
  pub inside : IsInside new
  pub committed : new.committed ≡ old.committed
  pub stands : AreStored d old.now.trees → AreStored after new.now.trees
  -- where SQLite finds rowids for n revisions in all, it still does
  pub rowids : (n : ℕ) → HasRevisionRowids old (n - length d.revisions)
      → HasRevisionRowids new (n - length after.revisions)

-- a connection in no transaction, whose tables store these records, now and after each crash
pub record Holds {S : Type 0} (g : Ghosts S) (c : Held S) (d : Tables) : Type 0 where
  pub autocommit : c.in_transaction ≡ false
  pub is_open : IsTrue (state g c).is_open
  pub schema : (state g c).now.schema ≡ desk_schema
  pub settled : (state g c).committed ≡ (state g c).now
  pub stands : AreStored d (state g c).now.trees

abbrev pub with_batch : Tables → Batch → Tables
with_batch d b = record d { batches = d.batches ++ b ∷ [] }

abbrev pub with_sentence : Tables → Sentence → Tables
with_sentence d s = record d { sentences = d.sentences ++ s ∷ [] }

abbrev pub with_revision : Tables → Revision → Tables
with_revision d r = record d { revisions = d.revisions ++ r ∷ [] }

abbrev pub with_move : Tables → Move → Tables
with_move d m = record d { moves = d.moves ++ m ∷ [] }

abbrev pub with_pulled : Tables → ℕ → Tables
with_pulled d sent = record d { pulled = d.pulled ++ sent ∷ [] }

abbrev pub without_pulled : Tables → ℕ → Tables
without_pulled d sent = record d { pulled = filter (λ n. not (n == sent)) d.pulled }

-- the record with this number is replaced
abbrev pub batch_replaced : Tables → ℕ → Batch → Tables
batch_replaced d at b = record d { batches = slice_set d.batches (at - 1) b }

abbrev pub sentence_replaced : Tables → ℕ → Sentence → Tables
sentence_replaced d at s = record d { sentences = slice_set d.sentences (at - 1) s }

abbrev pub total_replaced : Tables → ℕ → Total → Tables
total_replaced d at t = record d { totals = slice_set d.totals (at - 1) t }
