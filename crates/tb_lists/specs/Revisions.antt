-- The list of the revisions of a sentence, each beside the move that made it.
use Rattle.std.specs.Prelude.{◌≡◌, ℕ, ◌+◌, List, [], ◌∷◌, Bool, false, filter, length, nat_eq}
use Rattle.tb_core.specs.declared.kinds.Kind.{Kind}
use Rattle.tb_core.specs.declared.kinds.Kind.TheVariants.{Import, Step, Correct, Pull, Restore}
use Rattle.tb_core.specs.Machine.{Revision, Sentence, Machine, revisions, rev}
use Rattle.tb_core.specs.Moves.{MoveText}
use Rattle.tb_core.specs.Commands.{HasSentence}

-- A revision: its number, from 1, and the user who wrote it. Then the kind and the number of the move that made it.
pub record RevisionText : Type 0 where
  pub rev : ℕ
  pub who : List ℕ
  pub kind : Kind
  pub move_no : ℕ

-- Whether a move of this kind makes a revision of a sentence: an import of its batch makes the first one, and each
-- correction of the sentence the next one.
abbrev pub makes : Kind → (of_its_batch of_the_sentence : Bool) → Bool
makes Import b x = b
makes (Step event) b x = false
makes Correct b x = x
makes Pull b x = false
makes Restore b x = false

-- whether a move made a revision of the sentence with this number, which is in this batch
abbrev pub is_maker : (sentence batch : ℕ) → MoveText → Bool
is_maker n b m = makes m.kind (nat_eq m.batch b) (nat_eq m.sent n)

-- the moves that made the revisions of this sentence, in their order
abbrev pub makers : (sentence batch : ℕ) → List MoveText → List MoveText
makers n b ms = filter (is_maker n b) ms

-- a revision, and the move that made it
abbrev pub revision_line : ℕ → Revision → MoveText → RevisionText
revision_line k r m = record { rev = k; who = r.who; kind = m.kind; move_no = m.no }

-- revisions, the first of which has the number k, each beside its move
abbrev pub beside : ℕ → List Revision → List MoveText → List RevisionText
beside k [] ms = []
beside k (r ∷ rs) [] = []
beside k (r ∷ rs) (m ∷ ms) = revision_line k r m ∷ beside (k + 1) rs ms

-- the revisions of this sentence, which has this number
abbrev pub revision_lines : Machine → ℕ → Sentence → List RevisionText
revision_lines s n x = beside 1 (revisions x) (makers n x.batch s.moves)

-- the list of the revisions of the sentence with this number; it leaves out none
pub record AreRevisions (s : Machine) (n : ℕ) (lines : List RevisionText) : Type 0 where
  pub place : ℕ
  pub found : Sentence
  pub there : HasSentence s n place found
  pub reported : lines ≡ revision_lines s n found
  pub whole : length lines ≡ rev found
