-- The fault of one line: the least of nine codes.
-- CoNLL-U format page: a blank line ends a sentence. A line that begins with a hash is a comment, and comes before the
-- word lines. Every other line is a word line of ten fields.
use Rattle.std.specs.Prelude.{ℕ, List, [], ◌∷◌, length, take, Bool, true, false, ◌&&◌, ◌||◌, not}
use Rattle.std.specs.Prelude.{nat_lt, nat_le, ◌==◌, bytes_eq, if◌then◌else◌, slice_index, slice_index_or}
use Rattle.std.specs.Prelude.{chars}
use Rattle.std.specs.List.{list_any, list_all, slice_split}
use Rattle.std.specs.Str.{is_utf8}
use Rattle.unicode_normalization.specs.Forms.{nfc}
use Rattle.tb_chars.specs.Spaces.{has_space}
use Rattle.tb_chars.specs.Digits.{is_digit}
use Rattle.tb_conllu.specs.Shape.{is_control, is_tab}

abbrev pub is_nfc_text : List ℕ → Bool
is_nfc_text bs = bytes_eq (nfc (chars bs)) (chars bs)

abbrev pub is_empty : List ℕ → Bool
is_empty [] = true
is_empty (b ∷ bs) = false

abbrev pub is_comment : List ℕ → Bool
is_comment bs = bytes_eq (take 1 bs) (35 ∷ [])

-- ---- the fields of a word line

abbrev pub fields : List ℕ → List (List ℕ)
fields line = slice_split is_tab line

abbrev pub field : ℕ → List ℕ → List ℕ
field k line = slice_index_or (fields line) k []

abbrev pub has_ten_fields : List ℕ → Bool
has_ten_fields line = length (fields line) == 10 && not (list_any is_empty (fields line))

-- `0`, or one to six digits of which the first is not `0`
abbrev pub is_number : List ℕ → Bool
is_number ds = list_all is_digit ds && nat_lt 0 (length ds) && nat_le (length ds) 6 && (not
    (slice_index ds 0 == 48) || length ds == 1)

abbrev pub is_positive : List ℕ → Bool
is_positive ds = is_number ds && not (bytes_eq ds (48 ∷ []))

-- two parts, of which the first has p and the second q
abbrev pub are_two : (List ℕ → Bool) → (List ℕ → Bool) → List (List ℕ) → Bool
are_two p q [] = false
are_two p q (a ∷ []) = false
are_two p q (a ∷ b ∷ []) = p a && q b
are_two p q (a ∷ b ∷ c ∷ rest) = false

abbrev pub is_span : List ℕ → Bool
is_span ds = are_two is_positive is_positive (slice_split (λ b. b == 45) ds)

abbrev pub is_node : List ℕ → Bool
is_node ds = are_two is_number is_positive (slice_split (λ b. b == 46) ds)

-- `n`, `n-m` or `i.k`, where n, m and k are at least 1
abbrev pub is_id : List ℕ → Bool
is_id ds = is_positive ds || is_span ds || is_node ds

abbrev pub is_head : List ℕ → Bool
is_head ds = bytes_eq ds (95 ∷ []) || is_number ds

-- a field other than FORM, LEMMA and MISC holds white space; where ID holds some, code 5 comes first
abbrev pub has_spaced_field : List ℕ → Bool
has_spaced_field line = has_space (field 3 line) || has_space (field 4 line) || has_space (field 5 line)
    || has_space (field 6 line) || has_space (field 7 line) || has_space (field 8 line)

-- ---- the codes

-- the least code of a word line by its fields, 0 where it has none
abbrev pub word_code : List ℕ → ℕ
word_code line =
    if not (has_ten_fields line) then 4 else
    if not (is_id (field 0 line)) then 5 else
    if has_spaced_field line then 6 else
    if not (is_head (field 6 line)) then 7 else 0

-- the least code of a line, 0 where it has none; `came` says whether a word line of its sentence came before
abbrev pub line_code : Bool → List ℕ → ℕ
line_code came line =
    if not (is_utf8 line) then 1 else
    if not (is_nfc_text line) then 2 else
    if list_any is_control line then 3 else
    if is_empty line then (if came then 0 else 9) else
    if is_comment line then (if came then 8 else 0) else
    word_code line

-- after this line: whether a word line of the sentence came before
abbrev pub came_after : Bool → List ℕ → Bool
came_after came line = if is_empty line then false else if is_comment line then came else true

abbrev pub came_through : Bool → List (List ℕ) → Bool
came_through came [] = came
came_through came (l ∷ ls) = came_through (came_after came l) ls
