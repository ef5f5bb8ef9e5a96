-- Between crates: no contract of a front door cites a definition of this module.
-- The first sentence of a file that has a name.
-- CoNLL-U format page, "Sentence Boundaries and Comments": a sent_id is unique in its file.
use Rattle.std.specs.Prelude.{◌≡◌, ℕ, ◌-◌, ◌<◌, List, Bool, false, true, bytes_eq, Option, Some, None}
use Rattle.tb_rules.specs.Comments.{only, sent_ids}
use Rattle.tb_words.specs.FileSentences.{IsSentenceAfter, comment_line_of}
use Rattle.tb_words.specs.Keyed.{SaysTaken}
use Rattle.tb_words.specs.declared.findings.Finding.{Finding}
use Rattle.tb_words.specs.declared.places.Placed.{Placed}

abbrev pub is_value : List ℕ → Option (List ℕ) → Bool
is_value name None = false
is_value name (Some other) = bytes_eq other name

-- the only name of the sentence is this one
abbrev pub is_named : Placed → List ℕ → Bool
is_named placed name = is_value name (only (sent_ids placed.block))

-- none of the first sentences, so many, has the name
abbrev pub NoneIsNamed : (file name : List ℕ) → (count : ℕ) → Type 0
NoneIsNamed file name count =
    (k : ℕ) → k < count → (other : Placed) × IsSentenceAfter file k other × (is_named other name ≡ false)

-- the first sentence with the name, by its number and its first line
pub record IsFirstNamed (file name : List ℕ) (number line : ℕ) : Type 0 where
  pub placed : Placed
  pub read : IsSentenceAfter file (number - 1) placed
  pub named : is_named placed name ≡ true
  pub line_is : line ≡ comment_line_of placed 0
  pub before : NoneIsNamed file name (number - 1)

-- the name of this sentence is that of an earlier one, the first that has it
abbrev pub SaysFirstTaken : (file : List ℕ) → Placed → Finding → Type 0
SaysFirstTaken file placed found =
    (name : List ℕ) × (earlier : ℕ) × (line : ℕ) × (only (sent_ids placed.block) ≡ Some name)
    × IsFirstNamed file name earlier line × SaysTaken placed earlier line found
