-- Between crates: no contract of a front door cites a definition of this module.
-- The characters of a query's text with their places, and its literals (QUERIES, literals and patterns).
use Rattle.std.specs.Prelude.{◌≡◌, ◌⊎◌, ◌+◌, ◌-◌, ◌++◌, ◌∷◌, ◌==◌, ◌≤◌, ◌&&◌, ℕ, List, [], Bool, true, false, Option, Some, None}
use Rattle.std.specs.Prelude.{chars, drop, encode_utf8, encode_utf8_all, if◌then◌else◌, length, nat_eq, nat_le, nat_lt}
use Rattle.std.specs.Prelude.{slice_get, take}
use Rattle.std.specs.List.{list_any}
use Rattle.std.specs.Str.{IsCharBoundary}
use Rattle.tb_syntax.specs.Spelling.{begins, doubled, is_quote}
use Rattle.tb_words.specs.declared.literals.Literal.{Literal}
use Rattle.tb_words.specs.declared.literals.Reading.{Reading}

-- ---- characters

-- how many bytes these characters take
abbrev pub width : List ℕ → ℕ
width cs = length (encode_utf8_all cs)

-- these characters with their places, of which the first is at a byte
abbrev pub placed : (at : ℕ) → (cs : List ℕ) → List (ℕ × ℕ)
placed at [] = []
placed at (c ∷ cs) = (at, c) ∷ placed (at + length (encode_utf8 c)) cs

-- the character of a text that begins at a byte
abbrev pub HasChar : (text : List ℕ) → (at c : ℕ) → Type 0
HasChar text at c = IsCharBoundary text at × ((rest : List ℕ) × (drop at text ≡ encode_utf8 c ++ rest))

-- ---- literals

-- a literal: what it says is between two quotes of a kind, and each such quote in it is written twice
abbrev pub quoted : (quote : ℕ) → (said : List ℕ) → List ℕ
quoted quote said = quote ∷ (doubled quote said ++ quote ∷ [])

-- nothing, or a quote that no other closes, and what follows it
abbrev pub IsUnclosed : (cs : List ℕ) → Type 0
IsUnclosed cs =
    (cs ≡ []) ⊎ ((quote : ℕ) × (said : List ℕ) × (is_quote quote ≡ true) × (cs ≡ quote ∷ doubled quote said))

-- These are the literals of characters that begin at a byte, in order. No quote stands before them or between them.
abbrev pub AreLiterals : (at : ℕ) → (cs : List ℕ) → List Literal → Type 0
AreLiterals at cs [] =
    (gap : List ℕ) × (rest : List ℕ) × (cs ≡ gap ++ rest) × (list_any is_quote gap ≡ false) × IsUnclosed rest
AreLiterals at cs (l ∷ ls) =
    (gap : List ℕ) × (quote : ℕ) × (said : List ℕ) × (rest : List ℕ) × (cs ≡ gap ++ (quoted quote said ++ rest))
    × (list_any is_quote gap ≡ false) × (is_quote quote ≡ true) × (begins (nat_eq quote) rest ≡ false)
    × (l.start ≡ at + width gap) × (l.end ≡ l.start + width (quoted quote said)) × AreLiterals l.end rest ls

-- the literals of a text; none where memory is wanting
abbrev pub KnowsLiterals : (text : List ℕ) → List Literal → Type 0
KnowsLiterals text ls = AreLiterals 0 (chars text) ls ⊎ (ls ≡ [])

-- a byte is in one of these literals
abbrev pub is_in : List Literal → (at : ℕ) → Bool
is_in ls at = list_any (λ l. nat_le l.start at && nat_lt at l.end) ls

-- the literal with this number, counted from 1
abbrev pub literal_numbered : List Literal → (number : ℕ) → Option Literal
literal_numbered ls number = if number == 0 then None else slice_get ls (number - 1)

-- a text may be cut at both ends of a literal
abbrev pub IsCut : (text : List ℕ) → Literal → Type 0
IsCut text l = IsCharBoundary text l.start × IsCharBoundary text l.end × (l.start ≤ l.end)

-- a literal as it is written, with its quotes
abbrev pub written : (text : List ℕ) → Literal → List ℕ
written text l = take (l.end - l.start) (drop l.start text)

-- ---- a scan from the front

-- the quote of the literal that a character opens
abbrev pub opened : (c : ℕ) → Option ℕ
opened c = if is_quote c then Some c else None

-- a character has been read at a byte, and nothing before it matters
abbrev pub begun : (at c : ℕ) → Reading
begun at c = record { quote = opened c; start = at; is_shut = false }

abbrev pub nothing_read : Reading
nothing_read = record { quote = None; start = 0; is_shut = false }
