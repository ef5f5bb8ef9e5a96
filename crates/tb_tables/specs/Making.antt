-- The tables while they are made, and a desk's first records.
use Rattle.std.specs.Prelude.{◌≡◌, ℕ, List, [], ◌∷◌, Result, Ok, Err, false, IsTrue, IsUtf8, length}
use Rattle.std.specs.List.{AllByRecursion}
use Rattle.sqlite.specs.Store.{Ghosts}
use Rattle.sqlite.specs.Held.{Held, state}
use Rattle.sqlite.specs.Table.{Table}
use Rattle.sqlite.specs.Schema.{Schema}
use Rattle.sqlite.specs.Compile.{table_defined_by}
use Rattle.sqlite.specs.Change.{created}
use Rattle.sqlite.specs.Command.{Command}
use Rattle.sqlite.specs.Command.TheVariants.{CreateTable, Nothing}
use Rattle.sqlite.specs.Listing.{understood}
use Rattle.sqlite.specs.State.{State, text_of}
use Rattle.sqlite.specs.Given.{IsPlain}
use Rattle.sqlite.specs.Does.{lacks_sequence}
use Rattle.sqlite_resolve.specs.declared.compiled.Compiled.{Compiled}
use Rattle.sqlite_resolve.specs.declared.error.CompileError.{CompileError}
use Rattle.tb_tables.specs.Layout.{meta, batches, sentences, revisions}
use Rattle.tb_tables.specs.Records.{Tables, Total, Shows, meta_view, number_shown}
use Rattle.sqlite_catalog.specs.declared.error.Refusal.{Refusal}
use Rattle.sqlite_catalog.specs.Calls.{IsLongTable, RefusesTable}
use Rattle.tb_tables.specs.Changes.{IsInside}
use Rattle.tb_tables.specs.Failing.{IsWhole}

abbrev pub no_schema : Schema
no_schema = record { tables = []; indexes = []; views = [] }

-- with the first four tables
abbrev pub first_schema : Schema
first_schema = created (created (created (created no_schema meta) batches) sentences) revisions

abbrev pub no_total : Total
no_total = record { sentences = 0; words = 0 }

-- what a new desk holds: no batch, no sentence, no move, and zeros for each of the six states
abbrev pub empty_tables : Tables
empty_tables = record {
  batches = [];
  sentences = [];
  revisions = [];
  moves = [];
  totals = no_total ∷ no_total ∷ no_total ∷ no_total ∷ no_total ∷ no_total ∷ [];
  pulled = [];
}

-- a connection in no transaction to a database with no table, index or view, now and after each crash
pub record IsBlank {S : Type 0} (g : Ghosts S) (c : Held S) : Type 0 where
  pub autocommit : c.in_transaction ≡ false
  pub is_open : IsTrue (state g c).is_open
  pub schema : (state g c).now.schema ≡ no_schema
  pub settled : (state g c).committed ≡ (state g c).now

-- a transaction is open on the tables of this schema, and they have no rows
pub record IsBare (s : State) (schema : Schema) : Type 0 where
  pub begun : IsTrue s.in_transaction
  pub is : s.now.schema ≡ schema
  pub empty : AllByRecursion (λ (t : Table). s.now.trees t.tree ≡ []) schema.tables

-- the version is stored, and the other tables have no rows
pub record IsVersioned (s : State) : Type 0 where
  pub inside : IsInside s
  pub meta : Shows meta_view (number_shown 2 ∷ []) (s.now.trees 0)
  pub empty : AllByRecursion (λ t. s.now.trees t ≡ []) (1 ∷ 3 ∷ 5 ∷ 7 ∷ 8 ∷ 9 ∷ [])

-- ---- a CREATE TABLE that is understood

abbrev pub command_of : Result Compiled CompileError → Command
command_of (Ok c) = c.command
command_of (Err e) = Nothing

abbrev pub statement_of : List ℕ → Result Compiled CompileError → List ℕ
statement_of sql (Ok c) = text_of sql c
statement_of sql (Err e) = []

-- the text makes this table in the schema
pub record Makes (schema : Schema) (text : List ℕ) (table : Table) : Type 0 where
  pub command : command_of (understood schema text) ≡ CreateTable
  pub whole : statement_of text (understood schema text) ≡ text
  pub plain : IsPlain (understood schema text)
  pub defined : table_defined_by text ≡ Ok table
  pub uncounted : lacks_sequence (created schema table) ≡ false

-- CREATE TABLE accepts the text in the schema: it is one statement without parameters, nothing refuses it, and the row
-- that SQLite keeps for it can be stored
pub record Takes (schema : Schema) (text : List ℕ) : Type 0 where
  pub utf8 : IsUtf8 text
  pub whole : IsWhole (length text) 0 (understood schema text)
  pub never : (why : Refusal) → RefusesTable schema text why → ⊥
  pub short : IsLongTable text → ⊥
