-- The whole meaning of a text: its pattern, its token expressions, and the texts of its literals.
use Rattle.std.specs.Prelude.{◌≡◌, ℕ, List, [], ◌∷◌}
use Rattle.tb_match.specs.Trees.{Tree}
use Rattle.tb_syntax.specs.declared.expr.Literal.{Literal}
use Rattle.tb_syntax.specs.declared.lexeme.Lexeme.{Lexeme}
use Rattle.tb_syntax.specs.declared.lexeme.Lexeme.TheVariants.{Quote}
use Rattle.tb_syntax.specs.declared.lexing.Span.{Span}
use Rattle.tb_syntax.specs.Lexing.{bytes_at}
use Rattle.tb_syntax.specs.Tests.{Test}
use Rattle.tb_syntax.specs.Reading.{IsRead}
use Rattle.tb_syntax.specs.Spelling.{IsQuoted}

-- These are the texts of the literals among the lexemes, in order.
abbrev pub IsSaid : List ℕ → List Lexeme → List Span → List (List ℕ) → Type 0
IsSaid text [] [] said = said ≡ []
IsSaid text (Quote k ∷ ls) (s ∷ ss) [] = ⊥
IsSaid text (Quote k ∷ ls) (s ∷ ss) (w ∷ said) = IsQuoted (bytes_at text s) w × IsSaid text ls ss said
IsSaid text (l ∷ ls) (s ∷ ss) said = IsSaid text ls ss said
IsSaid text _ _ _ = ⊥

-- The text is a query within the limits, with this pattern, these token expressions and these texts of literals. The
-- token expressions name the literals by number.
abbrev pub Says : List ℕ → Tree → List (Test Literal) → List (List ℕ) → Type 0
Says text t es said = (ls : List Lexeme) × (ss : List Span) × IsRead text ls ss t es × IsSaid text ls ss said
