-- Between crates: no contract of a front door cites a definition of this module.
-- Which comment of a sentence is told, and which row out of order.
-- CoNLL-U format page, "Sentence Boundaries and Comments" and "Words, Tokens and Empty Nodes".
use Rattle.std.specs.Prelude.{◌≡◌, ℕ, ◌+◌, ◌-◌, ◌^◌, ◌<◌, ◌≤◌, ◌⊎◌, List, [], length, min, take, Option, Some, None}
use Rattle.std.specs.Prelude.{count_by, IfSome, IsSomeAnd, MatchOption, option_map, slice_index_or}
use Rattle.std.specs.List.{slice_get}
use Rattle.tb_conllu.specs.declared.id.LineId.{LineId}
use Rattle.tb_conllu.specs.declared.id.LineId.TheVariants.{Word, Span, Empty}
use Rattle.tb_conllu.specs.Text.{RowText}
use Rattle.tb_conllu.specs.Words.{is_word}
use Rattle.tb_rules.specs.Comments.{sent_id_key, value_under}
use Rattle.tb_rules.specs.Ids.{is_in_place, is_node_after}
use Rattle.tb_rules.specs.Rows.{IsFirstFault}
use Rattle.tb_words.specs.Columns.{value_bytes}
use Rattle.tb_words.specs.FileSentences.{comment_line_of, kept, row_line_of}
use Rattle.tb_words.specs.RowFaults.{SaysName}
use Rattle.tb_words.specs.declared.findings.Detail.TheVariants.{Again, Earlier, Instead}
use Rattle.tb_words.specs.declared.findings.Finding.{Finding}
use Rattle.tb_words.specs.declared.places.Placed.{Placed}
use Rattle.tb_words.specs.declared.rules.Comment.{Comment}
use Rattle.tb_words.specs.declared.sentences.TheConstants.{NODE_ORDER, SENT_ID_AGAIN, SENT_ID_MISSING, SENT_ID_TWICE}
use Rattle.tb_words.specs.declared.sentences.TheConstants.{WORD_ORDER}

-- ---- comments

-- no comment from one place on has the key, up to another place
abbrev pub LacksKey : (key : List ℕ) → (comments : List (List ℕ)) → (from to : ℕ) → Type 0
LacksKey key comments from to = (k : ℕ) → from ≤ k → k < to → value_under key (slice_index_or comments k []) ≡ None

-- the first comment from a place on that has the key, and its value
abbrev pub IsFirstKeyed : (key : List ℕ) → (comments : List (List ℕ)) → (from : ℕ) → Comment → Type 0
IsFirstKeyed key comments from found =
    (from ≤ found.at) × (found.at < length comments) × LacksKey key comments from found.at
    × (value_under key (slice_index_or comments found.at []) ≡ Some found.value.now)

abbrev pub IsKeyed : (key : List ℕ) → (comments : List (List ℕ)) → (from : ℕ) → Option Comment → Type 0
IsKeyed key comments from found =
    MatchOption found (LacksKey key comments from (length comments)) (IsFirstKeyed key comments from)

-- No comment has the key, or the first two that have it are told by their lines.
abbrev pub SaysKey : Placed → (key none two : List ℕ) → Finding → Type 0
SaysKey placed key none two found =
    ((found.sentence.now ≡ none) × (found.line ≡ comment_line_of placed 0)
    × LacksKey key placed.block.comments 0 (length placed.block.comments))
    ⊎ ((first : Comment) × (second : Comment) × IsFirstKeyed key placed.block.comments 0 first
    × IsFirstKeyed key placed.block.comments (kept (first.at + 1)) second × (found.sentence.now ≡ two)
    × (found.line ≡ comment_line_of placed first.at) × (found.detail ≡ Again (comment_line_of placed second.at)))

-- the first comment with a name, told by its line and by the name
abbrev pub IsAtName : Placed → Finding → Type 0
IsAtName placed found =
    (name : Comment) × IsFirstKeyed sent_id_key placed.block.comments 0 name
    × (found.line ≡ comment_line_of placed name.at) × IsSomeAnd found.value (λ v. value_bytes v ≡ name.value.now)

-- a sentence without a proper name: no comment has one, two have, or the one is empty or holds white space
abbrev pub SaysSentId : Placed → Finding → Type 0
SaysSentId placed found =
    SaysKey placed sent_id_key SENT_ID_MISSING.now SENT_ID_TWICE.now found
    ⊎ (IsAtName placed found × IsSomeAnd found.value (λ v. SaysName (value_bytes v) found.sentence.now))

-- a sentence that has the name of an earlier one: its number, and its first line
abbrev pub SaysTaken : Placed → (earlier first : ℕ) → Finding → Type 0
SaysTaken placed earlier first found =
    IsAtName placed found × (found.sentence.now ≡ SENT_ID_AGAIN.now) × (found.detail ≡ Earlier earlier first)

-- ---- rows

-- a number as an ID has it, in 32 bits
abbrev pub numbered : ℕ → ℕ
numbered n = min n (2 ^ 32 - 1)

-- the ID in the place of one, after so many words, and so many empty nodes since the last of them
abbrev pub next_id : (words nodes : ℕ) → LineId → LineId
next_id words nodes (Word n) = Word (numbered (words + 1))
next_id words nodes (Span a b) = Span a b
next_id words nodes (Empty i k) = Empty words (numbered (nodes + 1))

-- what is said of an ID that is not in its place
abbrev pub order_sentence : LineId → List ℕ
order_sentence (Word n) = WORD_ORDER.now
order_sentence (Span a b) = NODE_ORDER.now
order_sentence (Empty i k) = NODE_ORDER.now

-- the ID that has to stand in the place of this row
abbrev pub wanted_at : List RowText → (place : ℕ) → RowText → LineId
wanted_at rows place row =
    next_id (count_by is_word (take place rows)) (count_by (is_node_after (count_by is_word (take place rows)))
    (take place rows)) row.id

-- the first row that is not in its place, and the ID that has to stand there
abbrev pub IsMisplaced : List RowText → ℕ × LineId → Type 0
IsMisplaced rows found =
    IsFirstFault is_in_place rows (found.0 + 1)
    × IfSome (slice_get rows found.0) (λ row. found.1 ≡ wanted_at rows found.0 row)

-- the row at a place is told by its line, its ID, and the ID that has to stand there
abbrev pub IsMisplacedRow : Placed → (place : ℕ) → (wanted : LineId) → Finding → Type 0
IsMisplacedRow placed place wanted found =
    (found.line ≡ row_line_of placed place)
    × (found.id ≡ option_map (λ row. row.id) (slice_get placed.block.rows place)) × (found.detail ≡ Instead wanted)
    × IfSome (slice_get placed.block.rows place) (λ row. found.sentence.now ≡ order_sentence row.id)

-- so is the first one that is not in its place
abbrev pub SaysOrder : Placed → Finding → Type 0
SaysOrder placed found =
    (place : ℕ) × (wanted : LineId) × IsMisplaced placed.block.rows (place, wanted)
    × IsMisplacedRow placed place wanted found
