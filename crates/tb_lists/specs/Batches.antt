-- The list of the batches of a desk.
use Rattle.std.specs.Prelude.{◌≡◌, ℕ, ◌+◌, List, [], ◌∷◌, cond, nat_eq}
use Rattle.tb_core.specs.declared.kinds.State.{State}
use Rattle.tb_core.specs.declared.kinds.State.TheVariants.{Withdrawn}
use Rattle.tb_core.specs.Events.{is_state}
use Rattle.tb_core.specs.Machine.{Batch, Sentence, Machine, weigh, when, at_work, one, words}
use Rattle.tb_core.specs.Totals.{total}

-- A batch: its number, from 1, its name, its state, and its worker, whose name is empty where nobody works on it. Then
-- the number of its first sentence, how many of its sentences are not pulled, and their words; and how many are pulled,
-- and the words of those.
pub record BatchText : Type 0 where
  pub no : ℕ
  pub name : List ℕ
  pub state : State
  pub worker : List ℕ
  pub first : ℕ
  pub sentences : ℕ
  pub words : ℕ
  pub pulled : ℕ
  pub pulled_words : ℕ

-- The number of the first sentence of a batch, pulled or not; 0 where the batch has none. The first of the list has
-- the number n.
abbrev pub first_from : ℕ → ℕ → List Sentence → ℕ
first_from batch n [] = 0
first_from batch n (x ∷ xs) = cond (nat_eq x.batch batch) n (first_from batch (n + 1) xs)

-- a weight that counts only the pulled sentences of a batch
abbrev pub taken_out : ℕ → (Sentence → ℕ) → Sentence → ℕ
taken_out batch w x = when x.pulled (when (nat_eq x.batch batch) (w x))

-- the batch with this number, among these sentences
abbrev pub batch_line : List Sentence → ℕ → Batch → BatchText
batch_line xs n b = record {
  no = n;
  name = b.name;
  state = b.state;
  worker = b.worker;
  first = first_from n 1 xs;
  sentences = weigh (at_work n one) xs;
  words = weigh (at_work n words) xs;
  pulled = weigh (taken_out n one) xs;
  pulled_words = weigh (taken_out n words) xs;
}

-- batches, the first of which has the number n
abbrev pub lines_from : List Sentence → ℕ → List Batch → List BatchText
lines_from xs n [] = []
lines_from xs n (b ∷ bs) = batch_line xs n b ∷ lines_from xs (n + 1) bs

-- each batch of a desk, by number
abbrev pub batch_lines : Machine → List BatchText
batch_lines s = lines_from s.sentences 1 s.batches

-- ---- the totals

-- what a line counts in a state: a sentence is in the state of its batch, and a pulled one is withdrawn
abbrev pub sentences_in : State → BatchText → ℕ
sentences_in st line = when (is_state line.state st) line.sentences + when (is_state Withdrawn st) line.pulled

abbrev pub words_in : State → BatchText → ℕ
words_in st line = when (is_state line.state st) line.words + when (is_state Withdrawn st) line.pulled_words

-- the sum of a number of each line
abbrev pub sum_of : (BatchText → ℕ) → List BatchText → ℕ
sum_of f [] = 0
sum_of f (line ∷ lines) = f line + sum_of f lines

-- the lines add up to the total of a state
pub record AddUp (s : Machine) (st : State) : Type 0 where
  pub sentences : sum_of (sentences_in st) (batch_lines s) ≡ total one s st
  pub words : sum_of (words_in st) (batch_lines s) ≡ total words s st
