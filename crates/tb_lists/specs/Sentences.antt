-- The list of the sentences of a batch, each with its current revision.
use Rattle.std.specs.Prelude.{◌≡◌, ℕ, ◌+◌, List, [], ◌∷◌, Bool, Some, cond, nat_eq}
use Rattle.tb_core.specs.Machine.{Sentence, Machine, rev, words, text_value_of}
use Rattle.tb_refine.specs.Finding.{HasNumber}

-- A sentence: its number, from 1, and its `sent_id`. Of its current revision the number, the user who wrote it, and the
-- words; then whether the sentence is pulled, and the value of the comment `text` of that revision.
pub record SentenceText : Type 0 where
  pub no : ℕ
  pub sent_id : List ℕ
  pub rev : ℕ
  pub who : List ℕ
  pub words : ℕ
  pub pulled : Bool
  pub text : List ℕ

-- a sentence, and its number
abbrev pub sentence_line : ℕ → Sentence → SentenceText
sentence_line n x = record {
  no = n;
  sent_id = x.sent_id;
  rev = rev x;
  who = x.current.who;
  words = words x;
  pulled = x.pulled;
  text = text_value_of x.current.body;
}

-- those of this batch, pulled ones too; the first of all has the number n
abbrev pub sentences_from : (batch : ℕ) → ℕ → List Sentence → List SentenceText
sentences_from batch n [] = []
sentences_from batch n (x ∷ xs) =
    cond (nat_eq x.batch batch) (sentence_line n x ∷ sentences_from batch (n + 1) xs)
    (sentences_from batch (n + 1) xs)

-- the sentences of the batch with this number, in the order of their numbers
abbrev pub sentence_lines : Machine → ℕ → List SentenceText
sentence_lines s batch = sentences_from batch 1 s.sentences

-- the list of the sentences of the batch with this name
abbrev pub AreSentences : Machine → List ℕ → List SentenceText → Type 0
AreSentences s name lines = (n : ℕ) × HasNumber s name (Some n) × (lines ≡ sentence_lines s n)
