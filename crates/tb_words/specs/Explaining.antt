-- Between crates: no contract of a front door cites a definition of this module.
-- The words that explain a faulty line or a broken rule: what is wrong with the line, or with the sentence.
use Rattle.std.specs.Prelude.{◌≡◌, ◌+◌, ◌-◌, ◌<◌, ◌≤◌, ◌^◌, ◌⊎◌, ◌++◌, ℕ, List, codes, decimal, length, ⊤}
use Rattle.tb_conllu.specs.Words.{words_of}
use Rattle.tb_core.specs.declared.refusals.Refusal.TheVariants as refusal
use Rattle.tb_http.specs.declared.replies.Reply.{Reply}
use Rattle.tb_http.specs.declared.replies.Reply.TheVariants as reply
use Rattle.tb_rules.specs.Comments.{text_key}
use Rattle.tb_words.specs.Circles.{SaysCircle}
use Rattle.tb_words.specs.Explained.{BeginWith}
use Rattle.tb_words.specs.FileLines.{line_at}
use Rattle.tb_words.specs.FileSentences.{IsSentenceAfter}
use Rattle.tb_words.specs.Keyed.{SaysKey, SaysOrder, SaysSentId}
use Rattle.tb_words.specs.LineFaults.{SaysOfLine}
use Rattle.tb_words.specs.Named.{SaysFirstTaken}
use Rattle.tb_words.specs.RowFaults.{SaysRoots, SaysRowAt, SaysWords}
use Rattle.tb_words.specs.Shown.{finding_text}
use Rattle.tb_words.specs.Spelled.{SaysDifference}
use Rattle.tb_words.specs.declared.findings.Finding.{Finding}
use Rattle.tb_words.specs.declared.places.Placed.{Placed}
use Rattle.tb_words.specs.declared.sentences.TheConstants.{BROKEN, TEXT_MISSING, TEXT_TWICE}
use Rattle.tb_words.specs.declared.words.Words.{Words}

-- what is wrong with a sentence by a rule; the row is that of rules 4 to 8
abbrev pub SaysOfRule : (file : List ℕ) → Placed → (rule row : ℕ) → Finding → Type 0
SaysOfRule file placed rule row found =
    (rule ≡ 1 → SaysSentId placed found)
    × (rule ≡ 2 → SaysKey placed text_key TEXT_MISSING.now TEXT_TWICE.now found)
    × (rule ≡ 3 → length placed.block.rows + 1 < 2 ^ 32
    → SaysOrder placed found ⊎ SaysWords placed (words_of placed.block) found)
    × (4 ≤ rule → rule ≤ 8 → 1 ≤ row → SaysRowAt placed rule (row - 1) found)
    × (rule ≡ 9 → SaysRoots placed found) × (rule ≡ 10 → SaysCircle placed found)
    × (rule ≡ 11 → SaysDifference placed found)
    × (rule ≡ 12 → SaysFirstTaken file placed found)

-- the sentence with this number is told by what breaks the rule, after its place
abbrev pub ExplainsRule : (file : List ℕ) → (sentence rule row : ℕ) → Words → Type 0
ExplainsRule file sentence rule row words =
    (placed : Placed) × (found : Finding) × IsSentenceAfter file (sentence - 1) placed
    × SaysOfRule file placed rule row found × (words.sentence.now ≡ found.sentence.now)
    × BeginWith words (finding_text found)

-- so, or for want of memory by its number alone
abbrev pub SaysSentence : (file : List ℕ) → (sentence rule row : ℕ) → Words → Type 0
SaysSentence file sentence rule row words =
    ExplainsRule file sentence rule row words
    ⊎ ((words.sentence.now ≡ BROKEN.now) × BeginWith words (codes "sentence " ++ decimal sentence))

-- the line with this number is told by what is wrong with it, after its place
abbrev pub ExplainsLine : (file : List ℕ) → (number code : ℕ) → Words → Type 0
ExplainsLine file number code words =
    (found : Finding) × SaysOfLine number (line_at number file) (line_at (number - 1) file) code found
    × (words.sentence.now ≡ found.sentence.now) × BeginWith words (finding_text found)

-- what is said of a body that a reply refuses: of its line, or of its sentence
abbrev pub ExplainsBody : Reply → (body : List ℕ) → Words → Type 0
ExplainsBody (reply.Refused (refusal.Read line code)) body words = ExplainsLine body line code words
ExplainsBody (reply.Refused (refusal.Rule sentence rule row)) body words = SaysSentence body sentence rule row words
ExplainsBody _ body words = ⊤
