-- How a statement on the tables of a desk fails, and which records SQLite accepts.
use Rattle.std.specs.Prelude.{◌≡◌, ◌≢◌, ◌⊎◌, ℕ, pos, ◌+ℤ◌, List, [], ◌∷◌, ◌<◌, ◌≤◌, map, length, true, IsTrue, Result}
use Rattle.std.specs.Prelude.{Ok, Err, ⊤}
use Rattle.std.specs.List.{AllByRecursion}
use Rattle.sqlite.specs.declared.error.Error.{Error}
use Rattle.sqlite.specs.declared.error.Error.TheVariants.{SqliteFailure}
use Rattle.sqlite.specs.declared.error.ErrorCode.TheVariants.{NoRowid, OutOfMemory, SystemIoFailure, DatabaseCorrupt}
use Rattle.sqlite.specs.declared.error.ErrorCode.TheVariants.{DiskFull, Closed}
use Rattle.sqlite.specs.State.{store_error}
use Rattle.sqlite.specs.Order.{Row}
use Rattle.sqlite.specs.Tree.{IsTable, rowid, Trees}
use Rattle.sqlite_resolve.specs.declared.compiled.Compiled.{Compiled}
use Rattle.sqlite_resolve.specs.declared.error.CompileError.{CompileError}
use Rattle.sqlite_trees.specs.declared.error.StoreError.{StoreError}
use Rattle.sqlite_trees.specs.declared.error.StoreError.TheVariants.{Unstorable}
use Rattle.sqlite_trees.specs.View.{is_int}
use Rattle.sqlite_sql.specs.Ops.{fits_i64}
use Rattle.sqlite_rules.specs.Edit.{id_in, next_rowid}
use Rattle.tb_tables.specs.Records.{Tables, Batch, Sentence, Revision}

-- a fault of the store, of its size, or want of memory: the database refused nothing
abbrev pub IsStoreFault : Error → Type 0
IsStoreFault e = (cause : StoreError) × (e ≡ store_error cause)

-- a fault of the store, or want of memory: the database refused nothing, and nothing is too big
abbrev pub IsDiskFaultOrWant : Error → Type 0
IsDiskFaultOrWant e = (cause : StoreError) × (cause ≢ Unstorable) × (e ≡ store_error cause)

-- a fault of the store, or no rowid is left for one more row
abbrev pub IsRoomFault : Error → Type 0
IsRoomFault e = IsStoreFault e ⊎ (e ≡ SqliteFailure NoRowid)

-- the error is want of memory
abbrev pub IsWant : Error → Type 0
IsWant e = e ≡ SqliteFailure OutOfMemory

-- The error needs no failed disk and no shut store: it is a refusal, want of memory, or a size that cannot be stored.
abbrev pub NeedsNoFault : Error → Type 0
NeedsNoFault (SqliteFailure SystemIoFailure) = ⊥
NeedsNoFault (SqliteFailure DatabaseCorrupt) = ⊥
NeedsNoFault (SqliteFailure DiskFull) = ⊥
NeedsNoFault (SqliteFailure Closed) = ⊥
NeedsNoFault _ = ⊤

-- the same, or the rowid that SQLite chose for a revision is taken, which is reported as a corrupt file
abbrev pub NeedsNoFaultOnRevisions : Error → Type 0
NeedsNoFaultOnRevisions e = NeedsNoFault e ⊎ (e ≡ SqliteFailure DatabaseCorrupt)

-- Two texts of this length beside the numbers of a row stay below the billion bytes that SQLite stores.
abbrev pub longest_text : ℕ
longest_text = 400000000

abbrev pub IsShort : List ℕ → Type 0
IsShort text = length text ≤ longest_text

-- SQLite finds rowids for `count` more rows: the rows ascend by rowid, and the numbers above the last one fit 64 bits.
pub record HasRowids (count : ℕ) (rows : List Row) : Type 0 where
  pub ascend : IsTable rows
  pub keyed : AllByRecursion (λ r. IsTrue (is_int (rowid r))) rows
  pub room : (i : ℕ) → i < count → fits_i64 (next_rowid rows +ℤ pos i) ≡ true

-- The rows of `meta` have numbers of 64 bits, as all rows of a file have.
abbrev pub HasMetaRowids : Trees → Type 0
HasMetaRowids trees = AllByRecursion (λ r. fits_i64 (id_in (rowid r)) ≡ true) (trees 0)

-- a text of n bytes is one statement, with k parameters
abbrev pub IsWhole : ℕ → ℕ → Result Compiled CompileError → Type 0
IsWhole n k (Ok c) = (n ≤ c.tail) × (k ≡ length c.names)
IsWhole n k (Err e) = ⊥

-- x is not in the list
abbrev pub Lacks : {X : Type 0} → List X → X → Type 0
Lacks xs x = AllByRecursion (λ y. x ≢ y) xs

-- no two are the same
abbrev pub AreApart : {X : Type 0} → List X → Type 0
AreApart [] = Unit {0}
AreApart (x ∷ xs) = Lacks xs x × AreApart xs

-- what the UNIQUE constraints and the primary key of the revisions require of the records
pub record AreUnique (d : Tables) : Type 0 where
  pub batches : AreApart (map (λ (b : Batch). b.name) d.batches)
  pub sentences : AreApart (map (λ (s : Sentence). s.sent_id) d.sentences)
  pub revisions : AreApart {X = ℕ × ℕ} (map (λ (r : Revision). (r.sent, r.rev)) d.revisions)
