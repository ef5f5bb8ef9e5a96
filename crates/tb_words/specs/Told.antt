-- Inner: no contract beyond this crate cites a definition of this module.
-- Where each fault of a list is told, and by what.
use denote.Ref.{Bor}
use Rattle.std.specs.Prelude.{◌≡◌, ℕ, ◌-◌, ◌<◌, ◌⊎◌, List, [], ◌∷◌, Some, None, max, option_map, take}
use Rattle.std.specs.BTreeMap.{BTreeMap}
use Rattle.tb_check.specs.Faults.{AreFaults}
use Rattle.tb_check.specs.declared.fault.Fault.{Fault}
use Rattle.tb_check.specs.declared.fault.Fault.TheVariants.{Line, Rule}
use Rattle.tb_report.specs.FaultList.{FaultText, faults_csv}
use Rattle.tb_rules.specs.Comments.{only, sent_ids}
use Rattle.tb_words.specs.Columns.{column_shown}
use Rattle.tb_words.specs.Explaining.{SaysOfRule}
use Rattle.tb_words.specs.FileLines.{line_at}
use Rattle.tb_words.specs.FileSentences.{IsMissing, IsSentenceAfter, comment_line_of}
use Rattle.tb_words.specs.FirstFaults.{are_more}
use Rattle.tb_words.specs.Keyed.{SaysTaken}
use Rattle.tb_words.specs.LineFaults.{SaysOfLine}
use Rattle.tb_words.specs.Shown.{message_text, value_shown}
use Rattle.tb_words.specs.Walks.{first_of}
use Rattle.tb_words.specs.declared.findings.Detail.TheVariants.{Nothing}
use Rattle.tb_words.specs.declared.findings.Finding.{Finding}
use Rattle.tb_words.specs.declared.findings.Value.TheVariants.{Id}
use Rattle.tb_words.specs.declared.places.Placed.{Placed}
use Rattle.tb_words.specs.declared.sentences.TheConstants.{BROKEN}

-- what a list shows of a finding
pub record IsShownAs (found : Finding) (told : FaultText) : Type 0 where
  pub line_is : told.line ≡ found.line
  pub row_is : told.id ≡ value_shown (option_map (λ id. Id id) found.id)
  pub column_is : told.column ≡ column_shown found.column
  pub value_is : told.value ≡ value_shown found.value
  pub message_is : told.message ≡ message_text found.detail found.sentence.now

-- ---- sentences

-- only a line, and that the sentence breaks the rule
pub record IsBareFault (line : ℕ) (found : Finding) : Type 0 where
  pub line_is : found.line ≡ line
  pub row_is : found.id ≡ None
  pub column_is : found.column ≡ None
  pub value_is : found.value ≡ None
  pub detail_is : found.detail ≡ Nothing
  pub sentence_is : found.sentence.now ≡ BROKEN.now

-- the name of a sentence is that of one of these
abbrev pub IsTakenAmong : BTreeMap (Bor (List ℕ)) (ℕ × ℕ) → Placed → Finding → Type 0
IsTakenAmong names placed found =
    (name : List ℕ) × (first : ℕ × ℕ) × (only (sent_ids placed.block) ≡ Some name)
    × (first_of names name ≡ Some first) × SaysTaken placed first.0 first.1 found

-- What breaks a rule is told of a sentence. Where that is not found, as for want of memory, its first line is.
abbrev pub TellsPlaced : (file : List ℕ) → Placed → (rule row : ℕ) → Finding → Type 0
TellsPlaced file placed rule row found =
    SaysOfRule file placed rule row found ⊎ IsBareFault (comment_line_of placed 0) found

-- so of the sentence with a number, counted from 1, if there is one
abbrev pub TellsSentence : (file : List ℕ) → (number rule row : ℕ) → Finding → Type 0
TellsSentence file number rule row found =
    ((placed : Placed) × (0 < number) × IsSentenceAfter file (number - 1) placed
    × TellsPlaced file placed rule row found)
    ⊎ (((number ≡ 0) ⊎ IsMissing file number) × IsBareFault 0 found)

-- ---- lines

-- what is wrong with the line that has a number
abbrev pub TellsLineAt : (file : List ℕ) → (number code : ℕ) → Finding → Type 0
TellsLineAt file number code found = SaysOfLine number (line_at number file) (line_at (number - 1) file) code found

-- ---- lists of faults

-- a fault after others, of which the last line and the last sentence were these
abbrev pub TellsFault : (file : List ℕ) → (line sentence : ℕ) → Fault → FaultText → Type 0
TellsFault file line sentence (Line number code) told =
    (found : Finding) × TellsLineAt file (max line number) code found × IsShownAs found told
TellsFault file line sentence (Rule number rule row) told =
    (found : Finding) × TellsSentence file (max sentence number) rule row found × IsShownAs found told

-- the last line, and the last sentence, after a fault
abbrev pub line_told : ℕ → Fault → ℕ
line_told line (Line number code) = max line number
line_told line (Rule number rule row) = line

abbrev pub sentence_told : ℕ → Fault → ℕ
sentence_told sentence (Line number code) = sentence
sentence_told sentence (Rule number rule row) = max sentence number

-- Each fault of a list is told in its place. Faults are told in order: after a later line that one is told, and so is a
-- later sentence.
abbrev pub AreTold : (file : List ℕ) → (line sentence : ℕ) → List Fault → List FaultText → Type 0
AreTold file line sentence [] told = told ≡ []
AreTold file line sentence (fault ∷ faults) told =
    (first : FaultText) × (others : List FaultText) × (told ≡ first ∷ others) × TellsFault file line sentence fault first
    × AreTold file (line_told line fault) (sentence_told sentence fault) faults others

-- the list of the first faults of a file shows what is told of each
abbrev pub IsToldList : (file : List ℕ) → (most : ℕ) → (text : List ℕ) → Type 0
IsToldList file most text =
    (all : List Fault) × (told : List FaultText) × AreFaults file all × AreTold file 0 0 (take most all) told
    × (text ≡ faults_csv (are_more most all) told)
