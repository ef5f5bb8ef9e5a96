-- Between crates: no contract of a front door cites a definition of this module.
-- Words that hang from one another: steps along HEAD that do not end at 0.
use Rattle.std.specs.Prelude.{◌≡◌, ◌≢◌, ◌++◌, ◌<◌, ◌⊎◌, ℕ, zero, suc, ◌-◌, ◌==◌, List, length, map, filter, true}
use Rattle.std.specs.Prelude.{codes, decimal, if◌then◌else◌, IsSomeAnd, None, Option, Some}
use Rattle.std.specs.List.{Any, list_all, slice_get}
use Rattle.std.specs.Option.{unwrap_or}
use Rattle.std.specs.String.{string_bytes}
use Rattle.tb_conllu.specs.declared.id.LineId.TheVariants.{Word}
use Rattle.tb_conllu.specs.Text.{RowText}
use Rattle.tb_conllu.specs.Words.{is_word}
use Rattle.tb_rules.specs.Tree.{head_number}
use Rattle.tb_words.specs.FileSentences.{line_of_word}
use Rattle.tb_words.specs.declared.findings.Detail.{Detail}
use Rattle.tb_words.specs.declared.findings.Detail.TheVariants.{Circle}
use Rattle.tb_words.specs.declared.findings.Finding.{Finding}
use Rattle.tb_words.specs.declared.places.Placed.{Placed}
use Rattle.tb_words.specs.declared.sentences.TheConstants.{CIRCLE}

-- the HEADs of the words of a sentence, in order; 0 where a word has none
abbrev pub heads_in : List RowText → List ℕ
heads_in rows = map (λ row. head_number row.head) (filter is_word rows)

-- the HEAD of a word; 0 for a number that no word has
abbrev pub head_after : (heads : List ℕ) → (word : ℕ) → ℕ
head_after heads word = if word == 0 then 0 else unwrap_or (slice_get heads (word - 1)) 0

-- the word that so many steps along HEAD lead to
abbrev pub steps_from : (heads : List ℕ) → (steps word : ℕ) → ℕ
steps_from heads zero word = word
steps_from heads (suc n) word = head_after heads (steps_from heads n word)

-- This word is left after as many steps as there are words. Fewer steps lead from each word that hangs from the root to 0.
abbrev pub IsLeft : (heads : List ℕ) → (word : ℕ) → Type 0
IsLeft heads word = (word ≢ 0) × Any (λ head. word ≡ steps_from heads (length heads) head) heads

-- from each word so many steps lead to 0
abbrev pub NoneIsLeft : (heads : List ℕ) → Type 0
NoneIsLeft heads = list_all (λ head. steps_from heads (length heads) head == 0) heads ≡ true

-- ---- a circle as it is shown

-- a word, and where each of so many steps leads
abbrev pub circle_to : (heads : List ℕ) → (word steps : ℕ) → List ℕ
circle_to heads word zero = decimal word
circle_to heads word (suc n) = circle_to heads word n ++ (codes " -> " ++ decimal (steps_from heads (suc n) word))

-- none of the first steps, so many, leads back to the word
abbrev pub NoneLeadsBack : (heads : List ℕ) → (word steps : ℕ) → Type 0
NoneLeadsBack heads word steps = (k : ℕ) → k < steps → steps_from heads (suc k) word ≢ word

-- The circle is shown up to the first step that leads back to the word, of at most eight. Else the first eight are shown.
abbrev pub IsCircleText : (heads : List ℕ) → (word : ℕ) → (text : List ℕ) → Type 0
IsCircleText heads word text =
    ((n : ℕ) × (n < 8) × NoneLeadsBack heads word n × (steps_from heads (suc n) word ≡ word)
    × (text ≡ circle_to heads word (suc n)))
    ⊎ (NoneLeadsBack heads word 8 × (text ≡ circle_to heads word 8 ++ codes " -> .."))

-- what is shown of a circle
abbrev pub circle_shown : Detail → Option (List ℕ)
circle_shown (Circle words) = Some (string_bytes words)
circle_shown _ = None

-- a word that is left, its line, and the circle from it on
abbrev pub SaysCircleOf : (heads : List ℕ) → Placed → Finding → Type 0
SaysCircleOf heads placed found =
    (found.sentence.now ≡ CIRCLE.now) × ((word : ℕ) × IsLeft heads word × (found.id ≡ Some (Word word))
    × (found.line ≡ line_of_word placed word) × IsSomeAnd (circle_shown found.detail) (IsCircleText heads word))

abbrev pub SaysCircle : Placed → Finding → Type 0
SaysCircle placed found = SaysCircleOf (heads_in placed.block.rows) placed found
