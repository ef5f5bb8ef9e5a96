-- The rows that store a state in the tables, without the totals, which are sums of these.
use Rattle.std.specs.Prelude.{ℕ, ◌+◌, List, [], ◌∷◌, ◌++◌, cond, map}
use Rattle.tb_conllu.specs.Text.{text_of}
use Rattle.tb_core.specs.Moves.{MoveText}
use Rattle.tb_core.specs.Machine.{Batch, Revision, Sentence, Machine, revisions, rev, words}

pub record SentenceRow : Type 0 where
  pub sent_id : List ℕ
  pub batch : ℕ
  pub rev : ℕ
  pub words : ℕ

pub record RevisionRow : Type 0 where
  pub sent : ℕ
  pub rev : ℕ
  pub who : List ℕ
  pub body : List ℕ

pub record Rows : Type 0 where
  pub batches : List Batch
  pub sentences : List SentenceRow
  pub revisions : List RevisionRow
  pub moves : List MoveText
  pub pulled : List ℕ

abbrev pub sentence_row : Sentence → SentenceRow
sentence_row x = record { sent_id = x.sent_id; batch = x.batch; rev = rev x; words = words x }

-- the rows of the revisions of the sentence with this number, from revision k on
abbrev pub revision_rows : ℕ → ℕ → List Revision → List RevisionRow
revision_rows n k [] = []
revision_rows n k (r ∷ rs) = record {
  sent = n;
  rev = k;
  who = r.who;
  body = text_of (r.body ∷ []);
} ∷ revision_rows n (k + 1) rs

abbrev pub revisions_from : ℕ → List Sentence → List RevisionRow
revisions_from n [] = []
revisions_from n (x ∷ xs) = revision_rows n 1 (revisions x) ++ revisions_from (n + 1) xs

-- the numbers of pulled sentences, ascending
abbrev pub pulled_from : ℕ → List Sentence → List ℕ
pulled_from n [] = []
pulled_from n (x ∷ xs) = cond x.pulled (n ∷ pulled_from (n + 1) xs) (pulled_from (n + 1) xs)

abbrev pub rows_of : Machine → Rows
rows_of s = record {
  batches = s.batches;
  sentences = map sentence_row s.sentences;
  revisions = revisions_from 1 s.sentences;
  moves = s.moves;
  pulled = pulled_from 1 s.sentences;
}
