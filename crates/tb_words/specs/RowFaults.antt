-- Between crates: no contract of a front door cites a definition of this module.
-- What is said of a sentence that breaks a rule: each sentence with what makes it true.
-- CoNLL-U format page, "Words, Tokens and Empty Nodes" and "Syntactic Annotation"; UD v2 guidelines.
use Rattle.std.specs.Prelude.{◌≡◌, ◌≢◌, ℕ, ◌+◌, ◌-◌, ◌^◌, ◌<◌, ◌≤◌, ◌⊎◌, List, drop, length, min, None, Option, option_map, Bool}
use Rattle.std.specs.Prelude.{true, false, is_some, nat_le, count_by, position, IsSomeAnd, MatchOption, slice_index_or, Some, take}
use Rattle.std.specs.List.{list_any, slice_get}
use Rattle.tb_conllu.specs.declared.id.LineId.{LineId}
use Rattle.tb_conllu.specs.declared.id.LineId.TheVariants.{Word, Span, Empty}
use Rattle.tb_conllu.specs.Text.{BlockText, RowText, fields_of}
use Rattle.tb_conllu.specs.Words.{is_word, words_of}
use Rattle.tb_fields.specs.Blank.{is_blank}
use Rattle.tb_fields.specs.Relations.{is_relation}
use Rattle.tb_fields.specs.Tags.{is_universal_tag}
use Rattle.tb_rules.specs.Tree.{is_root}
use Rattle.tb_words.specs.Columns.{first_filled, value_bytes}
use Rattle.tb_words.specs.FeatureFaults.{SaysFeature}
use Rattle.tb_words.specs.FileSentences.{comment_line_of, row_line_of}
use Rattle.tb_words.specs.PairFaults.{SaysDeps}
use Rattle.tb_words.specs.declared.findings.Detail.TheVariants.{And, Words}
use Rattle.tb_words.specs.declared.findings.Finding.{Finding}
use Rattle.tb_words.specs.declared.places.Placed.{Placed}
use Rattle.tb_words.specs.declared.sentences.TheConstants.{DEPREL_UNKNOWN, HEAD_0_NOT_ROOT, HEAD_BEYOND, HEAD_MISSING}
use Rattle.tb_words.specs.declared.sentences.TheConstants.{HEAD_SELF, NODE_TREE, NODE_UPOS, NO_ROOT, NO_WORDS}
use Rattle.tb_words.specs.declared.sentences.TheConstants.{RANGE_BACKWARD, RANGE_BEYOND, RANGE_FIELD, RANGE_OVERLAP}
use Rattle.tb_words.specs.declared.sentences.TheConstants.{RANGE_PLACE, ROOT_WITH_HEAD, TOO_MANY_WORDS, TWO_ROOTS}
use Rattle.tb_words.specs.declared.sentences.TheConstants.{SENT_ID_EMPTY, SENT_ID_SPACE, UPOS_UNKNOWN}

-- ---- names

-- a name that is empty, or one that is not
abbrev pub SaysName : List ℕ → List ℕ → Type 0
SaysName name sentence =
    ((sentence ≡ SENT_ID_EMPTY.now) × (length name ≡ 0)) ⊎ ((sentence ≡ SENT_ID_SPACE.now) × (0 < length name))

-- ---- words

-- the number of a word; 0 for other rows
abbrev pub word_number : LineId → ℕ
word_number (Word n) = n
word_number (Span a b) = 0
word_number (Empty i k) = 0

-- a head of a word among so many: there is no such word, or it is the word itself
abbrev pub SaysHead : ℕ → ℕ → ℕ → List ℕ → Type 0
SaysHead head word count sentence =
    ((sentence ≡ HEAD_BEYOND.now) × (count < head)) ⊎ ((sentence ≡ HEAD_SELF.now) × (head ≡ word))

-- a relation to a head: it is unknown, or head and relation do not go together
abbrev pub SaysRelation : List ℕ → ℕ → List ℕ → Type 0
SaysRelation relation head sentence =
    ((sentence ≡ DEPREL_UNKNOWN.now) × (is_relation relation ≡ false))
    ⊎ ((sentence ≡ HEAD_0_NOT_ROOT.now) × (head ≡ 0))
    ⊎ ((sentence ≡ ROOT_WITH_HEAD.now) × (head ≢ 0))

-- a word with this head, among so many: what is wrong in HEAD or in DEPREL
abbrev pub SaysHeaded : RowText → ℕ → ℕ → ℕ → List ℕ → Type 0
SaysHeaded row count head column sentence =
    ((column ≡ 6) × SaysHead head (word_number row.id) count sentence)
    ⊎ ((column ≡ 7) × SaysRelation row.deprel head sentence)

-- a word among so many: what is wrong in UPOS, in HEAD or in DEPREL
abbrev pub SaysWord : RowText → ℕ → ℕ → List ℕ → Type 0
SaysWord row count column sentence =
    ((column ≡ 3) × (sentence ≡ UPOS_UNKNOWN.now) × (is_universal_tag row.upos ≡ false))
    ⊎ ((column ≡ 6) × (sentence ≡ HEAD_MISSING.now) × (row.head ≡ None))
    ⊎ IsSomeAnd row.head (λ head. SaysHeaded row count head column sentence)

-- ---- ranges

abbrev pub range_last : LineId → ℕ
range_last (Word n) = 0
range_last (Span a b) = b
range_last (Empty i k) = 0

-- one of the rows is a range that ends at this word or after it
abbrev pub reaches : List RowText → ℕ → Bool
reaches before word = list_any (λ row. nat_le word (range_last row.id)) before

-- the place of a range after these rows, in a sentence of so many words
abbrev pub SaysRangePlace : List RowText → ℕ → ℕ → ℕ → List ℕ → Type 0
SaysRangePlace before first last count sentence =
    ((sentence ≡ RANGE_BACKWARD.now) × (last < first))
    ⊎ ((sentence ≡ RANGE_BEYOND.now) × (count < last))
    ⊎ ((sentence ≡ RANGE_OVERLAP.now) × (reaches before first ≡ true))
    ⊎ ((sentence ≡ RANGE_PLACE.now) × (first ≢ min (count_by is_word before + 1) (2 ^ 64 - 1)))

-- such a range is in its place
abbrev pub IsRangePlaced : List RowText → ℕ → ℕ → ℕ → Type 0
IsRangePlaced before first last count =
    (first ≤ last) × (last ≤ count) × (reaches before first ≡ false)
    × (first ≡ min (count_by is_word before + 1) (2 ^ 64 - 1))

abbrev pub IsSpanPlaced : List RowText → LineId → ℕ → Type 0
IsSpanPlaced before (Word n) count = ⊥
IsSpanPlaced before (Span a b) count = IsRangePlaced before a b count
IsSpanPlaced before (Empty i k) count = ⊥

-- what is wrong with a row as a range: it is none, its place is wrong, or a column is not empty
abbrev pub SaysSpan : List RowText → LineId → ℕ → List ℕ → Type 0
SaysSpan before (Word n) count sentence = sentence ≡ RANGE_PLACE.now
SaysSpan before (Span a b) count sentence = SaysRangePlace before a b count sentence
SaysSpan before (Empty i k) count sentence = sentence ≡ RANGE_PLACE.now

abbrev pub SaysRange : List RowText → RowText → ℕ → ℕ → List ℕ → Type 0
SaysRange before row count column sentence =
    ((column ≡ 0) × SaysSpan before row.id count sentence)
    ⊎ ((column ≡ first_filled row) × (sentence ≡ RANGE_FIELD.now) × IsSpanPlaced before row.id count)

-- ---- empty nodes

abbrev pub SaysNode : RowText → ℕ → List ℕ → Type 0
SaysNode row column sentence =
    ((column ≡ 6) × (sentence ≡ NODE_TREE.now) × (is_some row.head ≡ true))
    ⊎ ((column ≡ 7) × (sentence ≡ NODE_TREE.now) × (is_some row.head ≡ false) × (is_blank row.deprel ≡ false))
    ⊎ ((column ≡ 3) × (sentence ≡ NODE_UPOS.now) × (is_some row.head ≡ false) × (is_blank row.deprel ≡ true))

-- ---- one row, by its rule

-- the column, and what is in it
abbrev pub ShowsField : RowText → Finding → Type 0
ShowsField row found = IsSomeAnd found.column (λ column. IsSomeAnd found.value (λ v.
    value_bytes v ≡ slice_index_or (fields_of row) column row.misc))

-- what is wrong with a row after others by one of rules 4 to 8, in a sentence
abbrev pub SaysRow : BlockText → ℕ → List RowText → RowText → Finding → Type 0
SaysRow block rule before row found =
    (rule ≡ 4 → IsSomeAnd found.column (λ column. SaysWord row (words_of block) column found.sentence.now))
    × (rule ≡ 5 → IsSomeAnd found.column (λ column. SaysRange before row (words_of block) column found.sentence.now))
    × (rule ≡ 6 → IsSomeAnd found.column (λ column. SaysNode row column found.sentence.now))
    × (rule ≡ 7 → (found.column ≡ Some 5)
    × IsSomeAnd found.value (λ v. SaysFeature row.feats (value_bytes v) found.sentence.now))
    × (rule ≡ 8 → (found.column ≡ Some 8)
    × IsSomeAnd found.value (λ v. SaysDeps block.rows row.deps (value_bytes v) found.sentence.now))
    × (rule ≤ 6 → ShowsField row found)

-- so of the row at a place, which is told by its line and its ID
abbrev pub SaysRowAt : Placed → ℕ → ℕ → Finding → Type 0
SaysRowAt placed rule at found =
    (found.line ≡ row_line_of placed at) × IsSomeAnd (slice_get placed.block.rows at) (λ row.
    (found.id ≡ Some row.id) × SaysRow placed.block rule (take at placed.block.rows) row found)

-- ---- whole sentences

-- how many words there are: none, or too many
abbrev pub SaysWords : Placed → ℕ → Finding → Type 0
SaysWords placed count found =
    (found.line ≡ comment_line_of placed 0) × (found.detail ≡ Words count)
    × (((found.sentence.now ≡ NO_WORDS.now) × (count ≡ 0)) ⊎ ((found.sentence.now ≡ TOO_MANY_WORDS.now) × (count ≢ 0)))

-- the first root after a row
abbrev pub root_after : List RowText → ℕ → Option ℕ
root_after rows first = option_map (λ k. first + 1 + k) (position is_root (drop (first + 1) rows))

-- two rows are named, each by its line and its ID
abbrev pub SaysPairOf : Placed → (first second : ℕ) → Finding → Type 0
SaysPairOf placed first second found =
    (found.sentence.now ≡ TWO_ROOTS.now) × (found.line ≡ row_line_of placed first)
    × (found.id ≡ option_map (λ row. row.id) (slice_get placed.block.rows first))
    × IsSomeAnd (slice_get placed.block.rows second) (λ row. found.detail ≡ And (row_line_of placed second) row.id)

-- the roots: no word is one, or the first two are named
abbrev pub SaysRoots : Placed → Finding → Type 0
SaysRoots placed found =
    MatchOption (position is_root placed.block.rows) ((found.sentence.now ≡ NO_ROOT.now)
    × (found.line ≡ comment_line_of placed 0)) (λ first.
    IsSomeAnd (root_after placed.block.rows first) (λ second. SaysPairOf placed first second found))
