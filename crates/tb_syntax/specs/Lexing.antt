-- The lexemes of a text, each with its place.
use Rattle.std.specs.Prelude.{◌≡◌, ℕ, ◌+◌, ◌-◌, take, drop, ◌⊎◌, List, [], ◌∷◌, ◌++◌}
use Rattle.std.specs.Prelude.{length, Bool, true, false, not, ◌||◌, nat_eq}
use Rattle.std.specs.List.{list_all}
use Rattle.tb_syntax.specs.declared.lexeme.Lexeme.{Lexeme}
use Rattle.tb_syntax.specs.declared.lexeme.Lexeme.TheVariants.{Quote, Stray}
use Rattle.tb_syntax.specs.declared.lexing.Span.{Span}
use Rattle.tb_syntax.specs.Spelling.{Starts, IsStray}

-- space, tab, LF and CR separate lexemes
abbrev pub is_white : ℕ → Bool
is_white c = nat_eq c 0x20 || nat_eq c 0x09 || nat_eq c 0x0A || nat_eq c 0x0D

abbrev pub begins_black : List ℕ → Bool
begins_black [] = false
begins_black (c ∷ cs) = not (is_white c)

-- how many literals there are up to a lexeme
abbrev pub literals_after : ℕ → Lexeme → ℕ
literals_after k (Quote j) = k + 1
literals_after k _ = k

-- the bytes of a span
abbrev pub bytes_at : List ℕ → Span → List ℕ
bytes_at text s = take (s.end - s.start) (drop s.start text)

-- The text, which begins at byte `at` after k literals, has these lexemes at these places. A part that is no lexeme
-- comes last.
abbrev pub Lexes : ℕ → ℕ → List ℕ → List Lexeme → List Span → Type 0
Lexes at k text [] [] = list_all is_white text ≡ true
Lexes at k text (l ∷ ls) (s ∷ ss) =
    (gap tail : List ℕ) × (text ≡ gap ++ tail) × (list_all is_white gap ≡ true) × (begins_black tail ≡ true)
    × (s.start ≡ at + length gap) ×
    (((rest : List ℕ) × Starts k tail l rest × (s.end + length rest ≡ s.start + length tail)
    × Lexes s.end (literals_after k l) rest ls ss)
    ⊎ (IsStray k tail × (l ≡ Stray) × (s.end ≡ s.start) × (ls ≡ []) × (ss ≡ [])))
Lexes at k text _ _ = ⊥
