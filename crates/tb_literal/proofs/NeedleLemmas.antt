-- What a test of a value says, by the flag.
use Rattle.std.proofs.Common.{◌≡◌, ℕ, List, Some, Bool, Box, Global}
use Rattle.regex.specs.Strings.{matcher_pattern}
use Rattle.regex.specs.declared.string.matcher.Matcher.{Matcher}
use Rattle.tb_syntax.specs.declared.lexeme.Flag.{Flag}
use Rattle.tb_syntax.specs.declared.lexeme.Flag.TheVariants.{Plain, NoCase, Literal}
use Rattle.tb_literal.specs.Patterns.{finds}
use Rattle.tb_literal.specs.Built.{Means, SearchesFor}
use Rattle.tb_literal.specs.Literals.{meets_as}

pub met_by_matcher : (flag : Flag) (text value : List ℕ) (m : Box Matcher Global) (r : Bool) → SearchesFor flag text (Some m) →
    ((source : List ℕ) → Means (matcher_pattern m.value) source → r ≡ finds source value) → r ≡ meets_as flag text value
met_by_matcher Plain text value m r h f = f _ h
met_by_matcher NoCase text value m r h f = f _ h
met_by_matcher Literal text value m r h f = absurd h
