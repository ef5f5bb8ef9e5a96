-- Between crates: no contract of a front door cites a definition of this module.
-- Places in a text that is no query: what is open there, its repetitions, its patterns, and how a place is shown.
use Rattle.std.specs.Prelude.{◌≡◌, ◌⊎◌, ◌+◌, ◌-◌, ◌^◌, ◌<◌, ◌++◌, ◌∷◌, ◌==◌, ◌&&◌, ℕ, List, Bool, Option, Some, None}
use Rattle.std.specs.Prelude.{chars, codes, drop, encode_utf8_all, filter, fold, if◌then◌else◌, length, map, min, nat_le}
use Rattle.std.specs.Prelude.{nat_lt, not, replicate, slice_get, take, unwrap_or}
use Rattle.std.specs.List.{AllByRecursion, before_first, list_any, position_or_len, slice_split}
use Rattle.std.specs.Str.{byte}
use Rattle.std.specs.Str.Iter.{HasSubslice}
use Rattle.tb_words.specs.FileLines.{is_line_feed}
use Rattle.tb_words.specs.QueryLiterals.{is_in, placed}
use Rattle.tb_words.specs.QueryNumbers.{SaysBounds}
use Rattle.tb_words.specs.Shown.{visible}
use Rattle.tb_words.specs.Spelled.{IsAfterLast}
use Rattle.tb_words.specs.declared.literals.Literal.{Literal}

-- ---- brackets

-- a place is before a byte, and in no literal
abbrev pub is_before : List Literal → (at place : ℕ) → Bool
is_before ls at place = nat_lt place at && not (is_in ls place)

-- how many are open after a sign more, which opens one, closes one, or does neither
abbrev pub open_after : (opens closes count c : ℕ) → ℕ
open_after opens closes count c =
    if c == opens then min (count + 1) (2 ^ 64 - 1) else if c == closes then count - 1 else count

abbrev pub with_sign : (opens closes count : ℕ) → (place : ℕ × ℕ) → ℕ
with_sign opens closes count place = open_after opens closes count place.1

-- the characters before a byte that are in no literal
abbrev pub signs_before : List Literal → (at : ℕ) → List (ℕ × ℕ) → List (ℕ × ℕ)
signs_before ls at places = filter (λ (place : ℕ × ℕ). is_before ls at place.0) places

-- how many are open at a byte
abbrev pub open_at : (text : List ℕ) → List Literal → (at opens closes : ℕ) → ℕ
open_at text ls at opens closes =
    fold (with_sign opens closes) 0 (signs_before ls at (placed 0 (chars text)))

-- ---- repetitions

-- a brace that begins a repetition, since it is in no literal
abbrev pub is_brace : List Literal → (place : ℕ × ℕ) → Bool
is_brace ls place = place.1 == byte "{" && not (is_in ls place.0)

-- the bytes at which these are
abbrev pub braces_of : List Literal → List (ℕ × ℕ) → List ℕ
braces_of ls places = map (λ (place : ℕ × ℕ). place.0) (filter (is_brace ls) places)

abbrev pub braces : (text : List ℕ) → List Literal → List ℕ
braces text ls = braces_of ls (placed 0 (chars text))

abbrev pub is_closing : ℕ → Bool
is_closing b = b == 125

-- another brace comes after the one at a byte, and closes it
abbrev pub IsClosed : (text : List ℕ) → (at : ℕ) → Type 0
IsClosed text at = position_or_len is_closing (drop (at + 1) text) < length (drop (at + 1) text)

-- it is so, and this is said of what is between them, if anything is
abbrev pub SaysBraces : (text : List ℕ) → (at : ℕ) → (said : Option (List ℕ)) → Type 0
SaysBraces text at said = IsClosed text at × SaysBounds (before_first is_closing (drop (at + 1) text)) said

-- the repetitions at these bytes are closed, and their numbers are right
abbrev pub AreRight : (text : List ℕ) → (ats : List ℕ) → Type 0
AreRight text ats = AllByRecursion (λ at. SaysBraces text at None) ats

-- those before the one at this byte are
pub record IsAfterRight (text : List ℕ) (ls : List Literal) (at : ℕ) : Type 0 where
  pub before : List ℕ
  pub after : List ℕ
  pub parts : braces text ls ≡ before ++ at ∷ after
  pub right : AreRight text before

-- the first repetition whose numbers are wrong, and what is wrong with them
abbrev pub IsFirstWrong : (text : List ℕ) → List Literal → (at : ℕ) → (said : List ℕ) → Type 0
IsFirstWrong text ls at said = IsAfterRight text ls at × SaysBraces text at (Some said)

-- no repetition is wrong, or the first that is not right is not closed
abbrev pub IsNoneWrong : (text : List ℕ) → List Literal → Type 0
IsNoneWrong text ls =
    AreRight text (braces text ls) ⊎ ((at : ℕ) × IsAfterRight text ls at × (IsClosed text at → ⊥))

-- ---- pictures

-- So many characters of a line are before a mark. At most 48 of them are shown, and at most 72 of the line.
abbrev pub picture_text : (line : List ℕ) → (count : ℕ) → List ℕ
picture_text line count =
    codes "    " ++ (encode_utf8_all (map visible (take 72 (drop (count - 48) (chars line))))
    ++ (codes "\n    " ++ (replicate (min 48 count) 32 ++ codes "^")))

-- the line of a text that has a byte, and a mark under the character that begins there
abbrev pub IsPicture : (text : List ℕ) → (at : ℕ) → (shown : List ℕ) → Type 0
IsPicture text at shown =
    (start : ℕ) × IsAfterLast 10 text at start × (shown ≡ picture_text (before_first is_line_feed (drop start text))
    (length (chars (take (at - start) (drop start text)))))
