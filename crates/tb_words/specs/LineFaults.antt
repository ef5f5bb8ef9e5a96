-- Between crates: no contract of a front door cites a definition of this module.
-- What is said of a line that cannot be read: each sentence with what makes it true.
-- CoNLL-U format page: a file is UTF-8, and a word line has ten fields with one tab between two of them.
use Rattle.std.specs.Prelude.{◌≡◌, ◌≢◌, ℕ, ◌+◌, ◌-◌, ◌^◌, ◌<◌, ◌⊎◌, List, [], ◌∷◌, ◌++◌, length, Option}
use Rattle.std.specs.Prelude.{Bool, true, false, ◌&&◌, ◌||◌, not, nat_le, nat_lt, ◌==◌, IfSome, IsSomeAnd, MatchOption, chars}
use Rattle.std.specs.Prelude.{codes, drop, eqb, if◌then◌else◌, is_some, None, position, slice_get, slice_index, Some}
use Rattle.std.specs.Prelude.{unwrap_or}
use Rattle.std.specs.List.{after_first, before_first, list_all, list_any, position_or_len, starts_with}
use Rattle.std.specs.Char.{is_not_whitespace, is_whitespace}
use Rattle.std.specs.Str.{EmptyOrStartsWithPassing, IsUtf8, NoCharPasses, trim, trim_start}
use Rattle.std.specs.Str.Iter.{HasSubslice}
use Rattle.std.specs.Str.Lossy.{utf8_valid_len}
use Rattle.tb_chars.specs.Digits.{is_digit}
use Rattle.tb_chars.specs.Spaces.{has_space}
use Rattle.tb_conllu.specs.Lines.{field, fields, is_empty}
use Rattle.unicode_normalization.specs.Forms.{IsInForm, Nfc}
use Rattle.tb_words.specs.Columns.{value_bytes}
use Rattle.tb_words.specs.declared.findings.Detail.TheVariants.{Byte, Character, Columns, Control}
use Rattle.tb_words.specs.declared.findings.Finding.{Finding}
use Rattle.tb_words.specs.declared.sentences.TheConstants.{BLANK_AFTER_COMMENTS, BLANK_FIRST, BLANK_MISSING, BLANK_TWICE}
use Rattle.tb_words.specs.declared.sentences.TheConstants.{BYTE_ORDER_MARK, CARRIAGE_RETURN, CARRIAGE_RETURN_WITHIN}
use Rattle.tb_words.specs.declared.sentences.TheConstants.{COMMENTS_AT_END, COMMENT_INDENTED, COMMENT_PLACE, CONTROL}
use Rattle.tb_words.specs.declared.sentences.TheConstants.{DOUBLE_TAB, EMPTY_FIELD, FEW_FIELDS, HEAD_FORM, ID_FORM, ID_LONG, ID_ZERO, LONE_RETURNS}
use Rattle.tb_words.specs.declared.sentences.TheConstants.{MANY_FIELDS, NOT_UTF8, NO_BLANK_AT_END, NO_LINE_FEED}
use Rattle.tb_words.specs.declared.sentences.TheConstants.{NOT_NFC, NO_TAB, NUL, SPACE, SPACES_FOR_TABS, TAB_AT_END, UTF16}
use Rattle.tb_words.specs.declared.sentences.TheConstants.{WHITE_LINE}

-- ---- code 1

-- the first line of a file in UTF-16, of either order of bytes
abbrev pub begins_utf16 : ℕ → List ℕ → Bool
begins_utf16 number raw =
    number == 1 && (starts_with eqb raw (255 ∷ 254 ∷ []) || starts_with eqb raw (254 ∷ 255 ∷ []))

-- the file is in UTF-16, or else this is the first byte that is not UTF-8, by its number in the line
abbrev pub SaysEncoding : ℕ → List ℕ → Finding → Type 0
SaysEncoding number raw found =
    ((found.sentence.now ≡ UTF16.now) × (begins_utf16 number raw ≡ true))
    ⊎ ((found.sentence.now ≡ NOT_UTF8.now) × (begins_utf16 number raw ≡ false) × (found.detail ≡ Byte (utf8_valid_len raw + 1) (slice_index raw
    (utf8_valid_len raw))))

-- ---- code 2

-- a field that is in normalization form C
abbrev pub IsComposed : List ℕ → ℕ → Type 0
IsComposed line column = IsInForm Nfc (chars (field column line))

-- the first field that is not
abbrev pub IsFirstUncomposed : List ℕ → ℕ → Type 0
IsFirstUncomposed line column = ¬ (IsComposed line column) × ((k : ℕ) → k < column → IsComposed line k)

-- the line is not in form C: a comment as a whole, of another line the first field that is not, and its value
abbrev pub SaysForm : List ℕ → Finding → Type 0
SaysForm line found =
    (found.sentence.now ≡ NOT_NFC.now) × (slice_index line 0 ≡ 35 → found.column ≡ None)
    × MatchOption found.column (IfSome found.value (λ v. value_bytes v ≡ line))
    (λ k. IsFirstUncomposed line k × IsSomeAnd found.value (λ v. value_bytes v ≡ field k line))

-- ---- code 3

-- a control character other than tab
abbrev pub is_control_code : ℕ → Bool
is_control_code c = nat_lt c 32 && not (c == 9)

-- nothing follows a place of a text
abbrev pub is_last : List ℕ → ℕ → Bool
is_last cs at = not (is_some (slice_get cs (at + 1)))

-- a CR: the last of its line, before a line feed, or at this place within the line
abbrev pub SaysReturn : (place : ℕ) → (at_end : Bool) → Finding → Type 0
SaysReturn place at_end found =
    ((found.sentence.now ≡ CARRIAGE_RETURN.now) × (at_end ≡ true))
    ⊎ ((found.sentence.now ≡ CARRIAGE_RETURN_WITHIN.now) × (at_end ≡ false) × (found.detail ≡ Character place))

-- what this character at this place of a line is called
abbrev pub SaysControlAt : (at c : ℕ) → (at_end : Bool) → Finding → Type 0
SaysControlAt at c at_end found =
    (SaysReturn (at + 1) at_end found × (c ≡ 13))
    ⊎ ((found.sentence.now ≡ NUL.now) × (c ≡ 0) × (found.detail ≡ Character (at + 1)))
    ⊎ ((found.sentence.now ≡ CONTROL.now) × (c ≢ 13) × (c ≢ 0) × (found.detail ≡ Control (at + 1) c))

-- the first control character of the line, by its number in the line
abbrev pub SaysControl : List ℕ → Finding → Type 0
SaysControl line found =
    IfSome (position is_control_code (chars line)) (λ at. SaysControlAt at (slice_index (chars line) at)
    (is_last (chars line) at) found)

-- ---- code 4

-- the bytes of U+FEFF
abbrev pub begins_with_mark : List ℕ → Bool
begins_with_mark line = starts_with eqb line (239 ∷ 187 ∷ 191 ∷ [])

-- the line is no word line, by its beginning
abbrev pub SaysBeginning : List ℕ → List ℕ → Type 0
SaysBeginning line sentence =
    ((sentence ≡ BYTE_ORDER_MARK.now) × (begins_with_mark line ≡ true))
    ⊎ ((sentence ≡ WHITE_LINE.now) × (length (trim line) ≡ 0))
    ⊎ ((sentence ≡ COMMENT_INDENTED.now) × (slice_index (trim_start line) 0 ≡ 35))

-- none of these
abbrev pub BeginsAsRow : List ℕ → Type 0
BeginsAsRow line =
    (begins_with_mark line ≡ false) × (0 < length (trim line)) × ((slice_index (trim_start line) 0 == 35) ≡ false)

-- a line of eleven fields that ends with a tab
abbrev pub has_last_tab : List ℕ → ℕ → Bool
has_last_tab line count = count == 11 && slice_index line (length line - 1) == 9

-- the line has more than ten fields: eleven of which the last is empty, an empty one, or neither
abbrev pub SaysMore : List ℕ → ℕ → List ℕ → Type 0
SaysMore line count sentence =
    ((sentence ≡ TAB_AT_END.now) × (has_last_tab line count ≡ true))
    ⊎ ((sentence ≡ DOUBLE_TAB.now) × (has_last_tab line count ≡ false) × HasSubslice line (9 ∷ 9 ∷ []))
    ⊎ ((sentence ≡ MANY_FIELDS.now) × (has_last_tab line count ≡ false) × ¬ (HasSubslice line (9 ∷ 9 ∷ [])))

-- the first place that passes, if one below the limit does
pub record IsFirstOf (p : ℕ → Bool) (limit place : ℕ) : Type 0 where
  pub before : (k : ℕ) → k < place → p k ≡ false
  pub here : (k : ℕ) → k < limit → p k ≡ true → p place ≡ true

abbrev pub is_empty_field : List ℕ → ℕ → Bool
is_empty_field line column = is_empty (field column line)

abbrev pub IsFirstEmpty : List ℕ → ℕ → Type 0
IsFirstEmpty line column = IsFirstOf (is_empty_field line) 10 column

-- the words of a text between white space, one after another
abbrev pub AreWords : List ℕ → List (List ℕ) → Type 0
AreWords text [] = NoCharPasses is_not_whitespace text
AreWords text (word ∷ words) =
    (gap : List ℕ) × (rest : List ℕ) × (text ≡ gap ++ (word ++ rest)) × (0 < length word)
    × NoCharPasses is_not_whitespace gap × NoCharPasses is_whitespace word
    × ((more : List ℕ) × EmptyOrStartsWithPassing is_whitespace rest more) × AreWords rest words

-- a line without a tab has five words or more, between which spaces are, or fewer
abbrev pub SaysTabless : List ℕ → List ℕ → Type 0
SaysTabless line sentence =
    (words : List (List ℕ)) × AreWords line words
    × (sentence ≡ (if nat_le 5 (length words) then SPACES_FOR_TABS.now else NO_TAB.now))

-- what is wrong with a line that has so many fields
abbrev pub SaysCount : List ℕ → ℕ → Finding → Type 0
SaysCount line count found =
    ((found.sentence.now ≡ EMPTY_FIELD.now) × (count ≡ 10) × IsSomeAnd found.column (IsFirstEmpty line))
    ⊎ (SaysTabless line found.sentence.now × (count ≡ 1) × IsSomeAnd found.value (λ v. value_bytes v ≡ line))
    ⊎ ((found.sentence.now ≡ FEW_FIELDS.now) × (count < 10) × (count ≢ 1) × (found.detail ≡ Columns count))
    ⊎ (SaysMore line count found.sentence.now × (10 < count) × (found.detail ≡ Columns count))

abbrev pub SaysColumns : List ℕ → Finding → Type 0
SaysColumns line found =
    SaysBeginning line found.sentence.now ⊎ (BeginsAsRow line × SaysCount line (length (fields line)) found)

-- ---- code 5

abbrev pub is_dash : ℕ → Bool
is_dash b = b == 45

abbrev pub is_dot : ℕ → Bool
is_dot b = b == 46

-- the numbers of an ID: those round its first hyphen, else those round its first dot
abbrev pub id_parts : List ℕ → List ℕ × List ℕ
id_parts id =
    if position_or_len is_dash id == length id then (before_first is_dot id, after_first is_dot id)
    else (before_first is_dash id, after_first is_dash id)

-- what is wrong with digits, if anything is: they begin with 0, or are more than six
abbrev pub number_sentence : List ℕ → Option (List ℕ)
number_sentence number =
    if length number == 0 || not (list_all is_digit number) then None else
    if slice_index number 0 == 48 then Some ID_ZERO.now else
    if nat_lt 6 (length number) then Some ID_LONG.now else None

-- the second number is looked at first
abbrev pub id_sentence : List ℕ → List ℕ
id_sentence id =
    if begins_with_mark id then BYTE_ORDER_MARK.now else
    unwrap_or (number_sentence (id_parts id).1) (unwrap_or (number_sentence (id_parts id).0) ID_FORM.now)

-- ---- code 6

-- white space in a field other than FORM, LEMMA and MISC
abbrev pub holds_wrong_space : List ℕ → ℕ → Bool
holds_wrong_space line column = not (column == 1 || column == 2 || column == 9) && has_space (field column line)

-- the first place below the limit that passes, if one does
abbrev pub IsFirst : (ℕ → Bool) → ℕ → Option ℕ → Type 0
IsFirst p limit first = MatchOption first ((k : ℕ) → k < limit → p k ≡ false) (λ place.
    (place < limit) × (p place ≡ true) × ((k : ℕ) → k < place → p k ≡ false))

-- ---- code 8

-- the text of a comment, without its hash and the white space round it
abbrev pub comment_text : List ℕ → List ℕ
comment_text line = trim (if slice_index line 0 == 35 then drop 1 line else line)

-- a comment with which sentences begin
abbrev pub begins_sentence : List ℕ → Bool
begins_sentence line = starts_with eqb (comment_text line) (codes "sent_id")
    || starts_with eqb (comment_text line) (codes "text")
    || starts_with eqb (comment_text line) (codes "newdoc") || starts_with eqb (comment_text line) (codes "newpar")

-- a comment after a word: a sentence begins there, or it is out of place
abbrev pub comment_sentence : List ℕ → List ℕ
comment_sentence line = if begins_sentence line then BLANK_MISSING.now else COMMENT_PLACE.now

-- ---- codes 9 and 10

-- a blank line where none may be: the first of the file, a second one, or one after another line
abbrev pub blank_sentence : (number : ℕ) → (before : List ℕ) → List ℕ
blank_sentence number before =
    if nat_le number 1 then BLANK_FIRST.now else
    if length before == 0 then BLANK_TWICE.now else BLANK_AFTER_COMMENTS.now

-- the end of a file, by what follows its last line feed and by the line before
abbrev pub ending_sentence : (rest before : List ℕ) → List ℕ
ending_sentence rest before =
    if list_any (λ b. b == 13) rest then LONE_RETURNS.now else
    if not (length rest == 0) then NO_LINE_FEED.now else
    if starts_with eqb before (35 ∷ []) then COMMENTS_AT_END.now else NO_BLANK_AT_END.now

-- ---- each code

-- what is in a column
abbrev pub ShowsColumn : (line : List ℕ) → (column : ℕ) → Finding → Type 0
ShowsColumn line column found =
    (found.column ≡ Some column) × IsSomeAnd found.value (λ v. value_bytes v ≡ field column line)

-- white space in a field, which is shown
abbrev pub SaysSpace : (line : List ℕ) → Finding → Type 0
SaysSpace line found =
    (found.sentence.now ≡ SPACE.now) × IsFirst (holds_wrong_space line) 10 found.column
    × IfSome found.column (λ k. IsSomeAnd found.value (λ v. value_bytes v ≡ field k line))

-- a comment out of place, which is shown
abbrev pub SaysComment : (line : List ℕ) → Finding → Type 0
SaysComment line found =
    (found.sentence.now ≡ comment_sentence line) × IsSomeAnd found.value (λ v. value_bytes v ≡ line)

-- what is said of a line that is UTF-8, by its code
abbrev pub SaysOfText : (line : List ℕ) → (code : ℕ) → Finding → Type 0
SaysOfText line code found =
    (code ≡ 2 → SaysForm line found)
    × (code ≡ 3 → length (chars line) < 2 ^ 64 → SaysControl line found)
    × (code ≡ 4 → SaysColumns line found)
    × (code ≡ 5 → (found.sentence.now ≡ id_sentence (field 0 line)) × ShowsColumn line 0 found)
    × (code ≡ 6 → SaysSpace line found)
    × (code ≡ 7 → (found.sentence.now ≡ HEAD_FORM.now) × ShowsColumn line 6 found)
    × (code ≡ 8 → SaysComment line found)

-- what is said of a line with this number and the line before it, by its code
abbrev pub SaysOfLine : (number : ℕ) → (line before : List ℕ) → (code : ℕ) → Finding → Type 0
SaysOfLine number line before code found =
    (found.line ≡ number) × (code ≡ 1 → SaysEncoding number line found)
    × (IsUtf8 line → SaysOfText line code found)
    × (code ≡ 9 → found.sentence.now ≡ blank_sentence number before)
    × (code ≡ 10 → found.sentence.now ≡ ending_sentence line before)
