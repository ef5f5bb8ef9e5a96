-- Between crates: no contract of a front door cites a definition of this module.
-- How a text and the forms of its words differ: where, and by what follows their common beginning.
use Rattle.std.specs.Prelude.{◌≡◌, ◌≢◌, ◌<◌, ◌≤◌, ◌-◌, ◌⊎◌, ◌++◌, ℕ, List, [], ◌∷◌, ◌==◌, Bool, false, if◌then◌else◌}
use Rattle.std.specs.Prelude.{codes, drop, length, Option, Some, None, slice_index}
use Rattle.std.specs.List.{join_with_byte}
use Rattle.std.specs.Str.{IsCharBoundary}
use Rattle.std.specs.String.{string_bytes}
use Rattle.tb_rules.specs.Comments.{text_key}
use Rattle.tb_rules.specs.Restored.{restored_text}
use Rattle.tb_words.specs.FileSentences.{comment_line_of}
use Rattle.tb_words.specs.Keyed.{IsFirstKeyed}
use Rattle.tb_words.specs.LineFaults.{AreWords}
use Rattle.tb_words.specs.Shown.{excerpt}
use Rattle.tb_words.specs.declared.findings.Detail.{Detail}
use Rattle.tb_words.specs.declared.findings.Detail.TheVariants.{Spelled}
use Rattle.tb_words.specs.declared.findings.Finding.{Finding}
use Rattle.tb_words.specs.declared.places.Placed.{Placed}
use Rattle.tb_words.specs.declared.rules.Comment.{Comment}
use Rattle.tb_words.specs.declared.sentences.TheConstants.{FORMS_HAVE_SPACE, TEXT_DIFFERS, TEXT_HAS_SPACE}

-- ---- the sentence

-- the next character is a space
abbrev pub begins_with_space : List ℕ → Bool
begins_with_space [] = false
begins_with_space (b ∷ bs) = b == 32

abbrev pub difference_sentence : (text forms : List ℕ) → List ℕ
difference_sentence text forms = if begins_with_space forms then FORMS_HAVE_SPACE.now
    else if begins_with_space text then TEXT_HAS_SPACE.now else TEXT_DIFFERS.now

-- ---- the texts

-- a word after others, which a space parts
abbrev pub with_word : (text word : List ℕ) → List ℕ
with_word text word = if length text == 0 then word else (text ++ 32 ∷ []) ++ word

-- the words of a text between white space, one space between two of them
abbrev pub IsFolded : (text folded : List ℕ) → Type 0
IsFolded text folded = (words : List (List ℕ)) × AreWords text words × (folded ≡ join_with_byte 32 words)

-- the byte at a place
abbrev pub IsByteAt : (bytes : List ℕ) → (at byte : ℕ) → Type 0
IsByteAt bytes at byte = (at < length bytes) × (slice_index bytes at ≡ byte)

-- so many bytes at the front are the same, and the next ones differ, or one text ends
abbrev pub IsCommonFront : (first second : List ℕ) → (count : ℕ) → Type 0
IsCommonFront first second count =
    (count ≤ length first) × (count ≤ length second)
    × ((k : ℕ) → k < count → slice_index first k ≡ slice_index second k)
    × (count < length first → count < length second → slice_index first count ≢ slice_index second count)

-- both texts may be cut there, between two characters
abbrev pub MayCut : (first second : List ℕ) → (at : ℕ) → Type 0
MayCut first second at = IsCharBoundary first at × IsCharBoundary second at

-- the last place up to another one at which both texts may be cut
abbrev pub IsLastCut : (first second : List ℕ) → (from at : ℕ) → Type 0
IsLastCut first second from at =
    (at ≤ from) × MayCut first second at × ((k : ℕ) → at < k → k ≤ from → MayCut first second k → ⊥)

-- the last place up to which the texts are the same, and where both may be cut
abbrev pub IsSame : (first second : List ℕ) → (at : ℕ) → Type 0
IsSame first second at = (count : ℕ) × IsCommonFront first second count × IsLastCut first second count at

-- the place after the last such byte before a place; 0 where there is none
abbrev pub IsAfterLast : (byte : ℕ) → (text : List ℕ) → (at start : ℕ) → Type 0
IsAfterLast byte text at start =
    (start ≤ at) × ((start ≡ 0) ⊎ (slice_index text (start - 1) ≡ byte))
    × ((k : ℕ) → start ≤ k → k < at → slice_index text k ≢ byte)

abbrev pub IsWordStart : (text : List ℕ) → (at start : ℕ) → Type 0
IsWordStart text at start = IsAfterLast 32 text at start

-- ---- what is told

abbrev pub text_shown : (text : List ℕ) → List ℕ
text_shown text = codes "the text has `" ++ excerpt text ++ codes "`"

abbrev pub forms_shown : (forms : List ℕ) → List ℕ
forms_shown forms = codes ", the forms `" ++ excerpt forms ++ codes "`"

abbrev pub spellings_text : (text forms : List ℕ) → List ℕ
spellings_text text forms = text_shown text ++ forms_shown forms

-- what is told of two spellings
abbrev pub spellings_told : Detail → Option (List ℕ)
spellings_told (Spelled said) = Some (string_bytes said)
spellings_told _ = None

-- The place where they differ says by what, and both are shown from the beginning of the word on.
abbrev pub SaysSpellings : (line : ℕ) → (text forms : List ℕ) → Finding → Type 0
SaysSpellings line text forms found =
    (found.line ≡ line) × ((at : ℕ) × (start : ℕ) × IsSame text forms at × IsWordStart text at start
    × (found.sentence.now ≡ difference_sentence (drop at text) (drop at forms))
    × (spellings_told found.detail ≡ Some (spellings_text (drop start text) (drop start forms))))

-- the first comment with a text, and the text of the rows
abbrev pub SaysDifference : Placed → Finding → Type 0
SaysDifference placed found =
    (given : Comment) × (text : List ℕ) × IsFirstKeyed text_key placed.block.comments 0 given
    × IsFolded given.value.now text
    × SaysSpellings (comment_line_of placed given.at) text (restored_text placed.block) found
