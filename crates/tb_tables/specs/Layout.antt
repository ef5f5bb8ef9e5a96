-- The seven tables of a desk, as SQLite sees them once they are made in this order. The first six are those of version
-- 1.
use Rattle.sqlite.specs.Collation.TheVariants.{Binary}
use Rattle.std.specs.Prelude.{◌≡◌, true, false, [], ◌∷◌, Some, None, codes, List, ℕ}
use Rattle.sqlite.specs.declared.types.Value.TheVariants.{Null}
use Rattle.sqlite.specs.Table.{Table}
use Rattle.sqlite.specs.Schema.{Schema}
use Rattle.sqlite_schema.specs.declared.schema.Column.{Column}
use Rattle.sqlite_schema.specs.declared.schema.Index.{Index}
use Rattle.sqlite.specs.Kind.{Kind}
use Rattle.sqlite.specs.Kind.TheVariants.{Integer, Text}
use Rattle.sqlite_value.specs.Keys.{plain}
use Rattle.sqlite_trees.specs.Tree.{Trees}
use Rattle.sqlite_trees.specs.Objects.{catalog_tree}
use Rattle.sqlite_catalog.specs.Listing.{Lists}

abbrev pub key_column : List ℕ → Column
key_column name = record {
  name = name;
  kind = Integer;
  is_strict = true;
  not_null = false;
  default = Null;
  collation = Binary;
}

abbrev pub column : List ℕ → Kind → Column
column name kind = record {
  name = name;
  kind = kind;
  is_strict = true;
  not_null = true;
  default = Null;
  collation = Binary;
}

abbrev pub table : List ℕ → ℕ → List Column → Table
table name tree columns = record {
  name = name;
  tree = tree;
  columns = columns;
  key = None;
  primary = [];
  uniques = [];
  orders = [];
  checks = [];
  references = [];
  computed = [];
  stamps = record { places = []; terms = []; formats = [] };
  is_counted = false;
}

abbrev pub keyed : List ℕ → ℕ → List Column → Table
keyed name tree columns = record (table name tree columns) { key = Some 0; primary = 0 ∷ [] }

abbrev pub meta : Table
meta = table (codes "meta") 0 (column (codes "version") Integer ∷ [])

abbrev pub batches : Table
batches = record (keyed (codes "batches") 1 (key_column (codes "no") ∷ column (codes "name") Text ∷ column
    (codes "state") Integer ∷ column (codes "worker") Text ∷ [])) {
      uniques = (2 ∷ []) ∷ [];
      orders = plain ∷ [];
    }

abbrev pub sentences : Table
sentences = record (keyed (codes "sentences") 3 (key_column (codes "no") ∷ column (codes "sent_id") Text ∷ column
    (codes "batch") Integer ∷ column (codes "rev") Integer ∷ column (codes "words") Integer ∷ [])) {
      uniques = (2
          ∷ []) ∷ [];
      orders = plain ∷ [];
    }

abbrev pub revisions : Table
revisions = record (table (codes "revisions") 5 (column (codes "sent") Integer ∷ column
    (codes "rev") Integer ∷ column (codes "who") Text ∷ column (codes "body") Text ∷ [])) {
      primary = 1 ∷ 2
          ∷ [];
      uniques = (1 ∷ 2 ∷ []) ∷ [];
      orders = plain ∷ [];
    }

abbrev pub moves : Table
moves = keyed (codes "moves") 7 (key_column (codes "no") ∷ column (codes "kind") Integer ∷ column
    (codes "batch") Integer ∷ column (codes "sent") Integer ∷ column (codes "from_state") Integer
    ∷ column (codes "to_state") Integer ∷ column (codes "sentences") Integer
    ∷ column (codes "words_out") Integer ∷ column (codes "words_in") Integer ∷ column (codes "who") Text ∷ [])

abbrev pub totals : Table
totals = keyed (codes "totals") 8 (key_column (codes "state") ∷ column (codes "sentences") Integer ∷ column
    (codes "words") Integer ∷ [])

abbrev pub pulled : Table
pulled = keyed (codes "pulled") 9 (key_column (codes "sent") ∷ [])

abbrev pub unique_index : List ℕ → ℕ → ℕ → List ℕ → Index
unique_index name tree table columns = record {
  name = name;
  tree = tree;
  table = table;
  columns = columns;
  order = plain;
  is_unique = true;
}

abbrev pub desk_schema : Schema
desk_schema = record {
  tables = meta ∷ batches ∷ sentences ∷ revisions ∷ moves ∷ totals ∷ pulled ∷ [];
  indexes = unique_index (codes "sqlite_autoindex_batches_1") 2 1 (2 ∷ [])
      ∷ unique_index (codes "sqlite_autoindex_sentences_1") 4 3 (2 ∷ [])
      ∷ unique_index (codes "sqlite_autoindex_revisions_1") 6 5 (1 ∷ 2 ∷ []) ∷ [];
  views = [];
}

-- The rows of `sqlite_schema` list no schema but that of a desk.
abbrev pub ListsDesk : Trees → Type 0
ListsDesk trees = (schema : Schema) → Lists (trees catalog_tree) schema → schema ≡ desk_schema

-- the schema of version 1, in which no sentence could be pulled
abbrev pub version_one_schema : Schema
version_one_schema = record desk_schema {
  tables = meta ∷ batches ∷ sentences ∷ revisions ∷ moves ∷ totals
      ∷ [];
}
