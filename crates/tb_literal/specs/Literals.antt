-- The literals of a query, and the values that they fit (The CQP Query Language Manual, on regular expressions and the
-- flags %c and %l).
use Rattle.std.specs.Prelude.{◌≡◌, IsUtf8, ℕ, List, Bool, true, false}
use Rattle.std.specs.Str.{bytes_eq}
use Rattle.tb_syntax.specs.declared.lexeme.Flag.{Flag}
use Rattle.tb_syntax.specs.declared.lexeme.Flag.TheVariants.{Plain, NoCase, Literal}
use Rattle.tb_literal.specs.Patterns.{IsWhole, finds, wrapped}

-- a literal as plain data
pub record PlainLit : Type 0 where
  pub text : List ℕ
  pub flag : Flag

-- the text may be a literal: it is a pattern, or with %l any text
abbrev pub IsAccepted : Flag → List ℕ → Type 0
IsAccepted Plain text = IsWhole false text
IsAccepted NoCase text = IsWhole true text
IsAccepted Literal text = Unit {0}

abbrev pub meets_as : Flag → List ℕ → List ℕ → Bool
meets_as Plain text value = finds (wrapped false text) value
meets_as NoCase text value = finds (wrapped true text) value
meets_as Literal text value = bytes_eq value text

-- the pattern matches the whole value, or with %l the text is the value
abbrev pub meets : PlainLit → List ℕ → Bool
meets literal value = meets_as literal.flag literal.text value

-- the literal fits no value but its own text
pub record IsPlainText (l : PlainLit) : Type 0 where
  pub alone : (value : List ℕ) → IsUtf8 value → meets l value ≡ true → value ≡ l.text
