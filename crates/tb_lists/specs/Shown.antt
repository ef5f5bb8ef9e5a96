-- Inner: no contract beyond this crate cites a definition of this module.
-- A sentence as its row and its current revision show it.
use Rattle.std.specs.Prelude.{ℕ, List, Bool}
use Rattle.tb_tables.specs.Records.{Sentence}
use Rattle.tb_lists.specs.Sentences.{SentenceText}

-- the sentence of a row, with its number, whether it is pulled, and what its current revision has
abbrev pub shown : ℕ → Sentence → (is_pulled : Bool) → (who text : List ℕ) → SentenceText
shown n r p who text = record {
  no = n;
  sent_id = r.sent_id;
  rev = r.rev;
  who = who;
  words = r.words;
  pulled = p;
  text = text;
}
