-- The sentence that has a `sent_id`, beside the name of its batch.
use Rattle.std.specs.Prelude.{◌≡◌, ℕ, List, Bool, Option, Some, None}
use Rattle.tb_core.specs.Names.{Lacks}
use Rattle.tb_core.specs.Machine.{Sentence, Machine, batch_with, rev, words}
use Rattle.tb_core.specs.Acts.{ids_of}
use Rattle.tb_core.specs.Commands.{HasSentence}

-- A sentence: its number, from 1, the name of its batch, the number of its current revision, and the words of that. Then
-- whether it is pulled.
pub record FoundText : Type 0 where
  pub no : ℕ
  pub batch : List ℕ
  pub rev : ℕ
  pub words : ℕ
  pub pulled : Bool

-- a sentence of a desk, and its number
abbrev pub found_line : Machine → ℕ → Sentence → FoundText
found_line s n x = record {
  no = n;
  batch = (batch_with s.batches x.batch).name;
  rev = rev x;
  words = words x;
  pulled = x.pulled;
}

-- the sentence with this `sent_id`, pulled or not
pub record IsFound (s : Machine) (sent_id : List ℕ) (line : FoundText) : Type 0 where
  pub place : ℕ
  pub found : Sentence
  pub there : HasSentence s line.no place found
  pub named : found.sent_id ≡ sent_id
  pub reported : line ≡ found_line s line.no found

-- what is found by a `sent_id`: its sentence, or none where no sentence has it
abbrev pub Finds : Machine → (sent_id : List ℕ) → Option FoundText → Type 0
Finds s id None = Lacks (ids_of s.sentences) id
Finds s id (Some line) = IsFound s id line
