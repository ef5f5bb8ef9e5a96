-- Between crates: no contract of a front door cites a definition of this module.
-- How a row, a value, a detail, a finding and words are shown.
use Rattle.std.specs.Prelude.{◌++◌, ◌^◌, ◌-◌, ℕ, List, [], Bool, Option, Some, None, chars, codes, decimal, encode_utf8_all}
use Rattle.std.specs.Prelude.{if◌then◌else◌, is_some, map, take, false, true}
use Rattle.std.specs.Char.{is_control}
use Rattle.std.specs.Fmt.{digits, format_spec, padded_integral}
use Rattle.std.specs.List.{slice_get}
use Rattle.std.specs.String.{string_bytes}
use Rattle.tb_conllu.specs.declared.id.LineId.{LineId}
use Rattle.tb_conllu.specs.declared.id.LineId.TheVariants.{Word, Span, Empty}
use Rattle.tb_words.specs.Columns.{column_name}
use Rattle.tb_words.specs.declared.findings.Detail.{Detail}
use Rattle.tb_words.specs.declared.findings.Detail.TheVariants as detail
use Rattle.tb_words.specs.declared.findings.Finding.{Finding}
use Rattle.tb_words.specs.declared.findings.Value.{Value}
use Rattle.tb_words.specs.declared.findings.Value.TheVariants.{Text, Id, Head}

-- ---- values

-- a character, or U+FFFD in the place of a control character
abbrev pub visible : ℕ → ℕ
visible c = if is_control c then 0xFFFD else c

-- whether a text has more than 40 characters
abbrev pub is_long : List ℕ → Bool
is_long text = is_some (slice_get (chars text) 40)

-- the first 40 characters of a text, and two dots where it has more
abbrev pub excerpt : List ℕ → List ℕ
excerpt text = encode_utf8_all (map visible (take 40 (chars text))) ++ (if is_long text then codes ".." else [])

-- a row by its ID
abbrev pub row_name : LineId → List ℕ
row_name (Word n) = codes "word " ++ decimal n
row_name (Span a b) = codes "range " ++ decimal a ++ codes "-" ++ decimal b
row_name (Empty i k) = codes "node " ++ decimal i ++ codes "." ++ decimal k

-- an ID as a row writes it
abbrev pub id_shown : LineId → List ℕ
id_shown (Word n) = decimal n
id_shown (Span a b) = decimal a ++ codes "-" ++ decimal b
id_shown (Empty i k) = decimal i ++ codes "." ++ decimal k

-- a value as it is shown: of a text an excerpt, an ID and a HEAD as a row writes them
abbrev pub value_text : Value → List ℕ
value_text (Text text) = excerpt text.now
value_text (Id id) = id_shown id
value_text (Head None) = codes "_"
value_text (Head (Some head)) = decimal head

-- nothing where no value is told
abbrev pub value_shown : Option Value → List ℕ
value_shown None = []
value_shown (Some value) = value_text value

-- ---- details

-- capital hexadecimal digits, at least so many, with zeros before them
abbrev pub hex : (width n : ℕ) → List ℕ
hex width n = padded_integral (format_spec 32 0 4 width (2 ^ 64 - 1)) false [] (digits 16 true n)

abbrev pub detail_text : Detail → List ℕ
detail_text detail.Nothing = []
detail_text (detail.Byte place byte) = codes "byte " ++ decimal place ++ codes ", hex " ++ hex 2 byte
detail_text (detail.Character place) = codes "character " ++ decimal place
detail_text (detail.Control place code) = codes "character " ++ decimal place ++ codes ", U+" ++ hex 4 code
detail_text (detail.Columns count) = decimal count ++ codes " columns"
detail_text (detail.Words count) = decimal count ++ codes " words"
detail_text (detail.Again line) = codes "and line " ++ decimal line
detail_text (detail.And line id) = codes "and line " ++ decimal line ++ codes ", " ++ row_name id
detail_text (detail.Instead id) = codes "where " ++ row_name id ++ codes " has to stand"
detail_text (detail.Circle words) = codes "words " ++ string_bytes words
detail_text (detail.Spelled words) = string_bytes words
detail_text (detail.Earlier sentence line) =
    (codes "as in sentence " ++ decimal sentence) ++ (codes " from line " ++ decimal line)

-- ---- findings

abbrev pub line_text : (line : ℕ) → Option LineId → List ℕ
line_text line None = codes "line " ++ decimal line
line_text line (Some id) = codes "line " ++ decimal line ++ codes ", " ++ row_name id

-- the line, or both, and the row where the detail does not name it
abbrev pub row_text : (line : ℕ) → Option LineId → Detail → List ℕ
row_text line id (detail.Again second) = codes "lines " ++ decimal line ++ codes " and " ++ decimal second
row_text line id (detail.Circle words) = line_text line None
row_text line id _ = line_text line id

-- the column, and what is in it
abbrev pub field_text : (column : Option ℕ) → (value : Option Value) → List ℕ
field_text None None = []
field_text None (Some value) = codes ", `" ++ value_text value ++ codes "`"
field_text (Some column) None = codes ", " ++ column_name column
field_text (Some column) (Some value) =
    (codes ", " ++ column_name column) ++ ((codes " `" ++ value_text value) ++ codes "`")

-- there is no detail, or the line has it
abbrev pub is_in_line : Detail → Bool
is_in_line detail.Nothing = true
is_in_line (detail.Again line) = true
is_in_line _ = false

-- the detail says what has to stand there
abbrev pub is_wanted : Detail → Bool
is_wanted (detail.Instead id) = true
is_wanted _ = false

-- the detail, where the line does not have it
abbrev pub rest_text : Detail → List ℕ
rest_text d =
    if is_in_line d then [] else if is_wanted d then codes " " ++ detail_text d else codes ", " ++ detail_text d

-- a finding is shown as its place
abbrev pub finding_text : Finding → List ℕ
finding_text found =
    row_text found.line found.id found.detail ++ field_text found.column found.value ++ rest_text found.detail

-- there is no detail
abbrev pub is_bare : Detail → Bool
is_bare detail.Nothing = true
is_bare _ = false

-- what a list says beside the place: the detail, if there is one, and the sentence
abbrev pub message_text : Detail → (sentence : List ℕ) → List ℕ
message_text d sentence = if is_bare d then sentence else detail_text d ++ (codes ": " ++ sentence)
