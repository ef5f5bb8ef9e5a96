-- Inner: no contract beyond this crate cites a definition of this module.
-- Which refusal of literals is reported.
use Rattle.std.specs.Prelude.{◌≡◌, ℕ, ◌+◌, List, ◌∷◌, ◌++◌, map}
use Rattle.tb_syntax.specs.declared.expr.Literal.{Literal}
use Rattle.tb_literal.specs.Literals.{IsAccepted}
use Rattle.tb_literal.specs.declared.pattern.PatternFault.{PatternFault}
use Rattle.tb_literal.specs.declared.pattern.PatternFault.TheVariants as pattern
use Rattle.tb_query.specs.declared.fault.QueryFault.{QueryFault}
use Rattle.tb_query.specs.declared.fault.QueryFault.TheVariants.{Pattern, Memory}
use Rattle.tb_query.specs.Reading.{text_of, with_text, AreAccepted}

-- the fault for a literal that is refused: its number, counted from 1; or want of memory
abbrev pub fault_of_literal : Literal → PatternFault → QueryFault
fault_of_literal l pattern.Syntax = Pattern (l.number + 1)
fault_of_literal l pattern.Memory = Memory

-- the first of the literals that is refused, by its number, counted from 1
abbrev pub IsRefusalAmong : List (List ℕ) → List Literal → QueryFault → Type 0
IsRefusalAmong said ls (Pattern k) =
    (before : List Literal) × (l : Literal) × (after : List Literal) × (ls ≡ before ++ l ∷ after)
    × (k ≡ l.number + 1)
    × AreAccepted (map (with_text said) before) × (IsAccepted l.flag (text_of said l.number) → ⊥)
IsRefusalAmong said ls Memory = Unit {0}
IsRefusalAmong said ls _ = ⊥
