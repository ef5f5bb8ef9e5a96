-- What the tables hold, as lists of typed records, and when the rows of a file store them.
use Rattle.std.specs.Prelude.{ℕ, suc, pos, List, [], ◌∷◌, map, IsPermutation}
use Rattle.sqlite.specs.declared.types.Value.TheVariants.{Int, Text}
use Rattle.sqlite.specs.Order.{Row, column}
use Rattle.sqlite.specs.Tree.{Trees}
use Rattle.tb_tables.specs.Layout.{ListsDesk}

-- ---- the records. Texts are bytes; states and kinds are numbers.

pub record Batch : Type 0 where
  pub name : List ℕ
  pub state : ℕ
  pub worker : List ℕ

pub record Sentence : Type 0 where
  pub sent_id : List ℕ
  pub batch : ℕ
  pub rev : ℕ
  pub words : ℕ

pub record Revision : Type 0 where
  pub sent : ℕ
  pub rev : ℕ
  pub who : List ℕ
  pub body : List ℕ

pub record Move : Type 0 where
  pub kind : ℕ
  pub batch : ℕ
  pub sent : ℕ
  pub from : ℕ
  pub to : ℕ
  pub sentences : ℕ
  pub words_out : ℕ
  pub words_in : ℕ
  pub who : List ℕ

pub record Total : Type 0 where
  pub sentences : ℕ
  pub words : ℕ

-- Batches, sentences and moves are numbered from 1, and the totals are those of the states from 1 on.
pub record Tables : Type 0 where
  pub batches : List Batch
  pub sentences : List Sentence
  pub revisions : List Revision
  pub moves : List Move
  pub totals : List Total
  pub pulled : List ℕ

-- ---- what SELECT of all columns shows of a record

abbrev pub batch_shown : ℕ → Batch → Row
batch_shown n b = Int (pos n) ∷ Text b.name ∷ Int (pos b.state) ∷ Text b.worker ∷ []

abbrev pub sentence_shown : ℕ → Sentence → Row
sentence_shown n s = Int (pos n) ∷ Text s.sent_id ∷ Int (pos s.batch) ∷ Int (pos s.rev)
    ∷ Int (pos s.words) ∷ []

abbrev pub revision_shown : Revision → Row
revision_shown r = Int (pos r.sent) ∷ Int (pos r.rev) ∷ Text r.who ∷ Text r.body ∷ []

abbrev pub move_shown : ℕ → Move → Row
move_shown n m =
    Int (pos n) ∷ Int (pos m.kind) ∷ Int (pos m.batch) ∷ Int (pos m.sent) ∷ Int (pos m.from) ∷ Int (pos m.to)
    ∷ Int (pos m.sentences) ∷ Int (pos m.words_out) ∷ Int (pos m.words_in) ∷ Text m.who ∷ []

abbrev pub total_shown : ℕ → Total → Row
total_shown n t = Int (pos n) ∷ Int (pos t.sentences) ∷ Int (pos t.words) ∷ []

abbrev pub number_shown : ℕ → Row
number_shown n = Int (pos n) ∷ []

-- the records, numbered from n on
abbrev pub numbered : {X : Type 0} → (ℕ → X → Row) → ℕ → List X → List Row
numbered row n [] = []
numbered row n (x ∷ xs) = row n x ∷ numbered row (suc n) xs

-- ---- what SELECT shows of a stored row: place 0 is the rowid, and an INTEGER PRIMARY KEY too; place k + 1 is column k

abbrev pub meta_view : Row → Row
meta_view r = column r 1 ∷ []

abbrev pub batch_view : Row → Row
batch_view r = column r 0 ∷ column r 2 ∷ column r 3 ∷ column r 4 ∷ []

abbrev pub sentence_view : Row → Row
sentence_view r = column r 0 ∷ column r 2 ∷ column r 3 ∷ column r 4 ∷ column r 5 ∷ []

abbrev pub revision_view : Row → Row
revision_view r = column r 1 ∷ column r 2 ∷ column r 3 ∷ column r 4 ∷ []

abbrev pub move_view : Row → Row
move_view r = column r 0 ∷ column r 2 ∷ column r 3 ∷ column r 4 ∷ column r 5 ∷ column r 6 ∷ column r 7
    ∷ column r 8 ∷ column r 9 ∷ column r 10 ∷ []

abbrev pub total_view : Row → Row
total_view r = column r 0 ∷ column r 2 ∷ column r 3 ∷ []

abbrev pub number_view : Row → Row
number_view r = column r 0 ∷ []

-- the rows, in any order, show these records and nothing else
abbrev pub Shows : (Row → Row) → List Row → List Row → Type 0
Shows view shown rows = IsPermutation shown (map view rows)

-- a file has the seven tables and no others, and each shows its records
pub record AreStored (d : Tables) (trees : Trees) : Type 0 where
  pub listed : ListsDesk trees
  pub meta : Shows meta_view (number_shown 2 ∷ []) (trees 0)
  pub batches : Shows batch_view (numbered batch_shown 1 d.batches) (trees 1)
  pub sentences : Shows sentence_view (numbered sentence_shown 1 d.sentences) (trees 3)
  pub revisions : Shows revision_view (map revision_shown d.revisions) (trees 5)
  pub moves : Shows move_view (numbered move_shown 1 d.moves) (trees 7)
  pub totals : Shows total_view (numbered total_shown 1 d.totals) (trees 8)
  pub pulled : Shows number_view (map number_shown d.pulled) (trees 9)
