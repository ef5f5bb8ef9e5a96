-- Inner: no contract beyond this crate cites a definition of this module.
-- What the compiled form of a literal means.
use Rattle.std.specs.Prelude.{◌≡◌, ◌<◌, ℕ, List, Option, None, Some, false, true, is_some, option_map}
use Rattle.std.specs.Prelude.{slice_index, IsUtf8}
use Rattle.std.specs.Str.{bytes_eq}
use Rattle.std.specs.declared.boxed.Box.{Box}
use Rattle.std.specs.Global.{Global}
use Rattle.regex.specs.Patterns.{Re, find_str}
use Rattle.regex.specs.Strings.{regex_pattern, matcher_pattern}
use Rattle.regex.specs.declared.string.regex.Regex.{Regex}
use Rattle.regex.specs.declared.string.matcher.Matcher.{Matcher}
use Rattle.tb_syntax.specs.declared.lexeme.Flag.{Flag}
use Rattle.tb_syntax.specs.declared.lexeme.Flag.TheVariants.{Plain, NoCase, Literal}
use Rattle.tb_literal.specs.Patterns.{finds, wrapped}

-- the compiled pattern finds something in bytes exactly where the text, parsed as a pattern, does
pub record Means (re : Re) (text : List ℕ) : Type 0 where
  pub at : (value : List ℕ) → ((k : ℕ) → slice_index value k < 256)
      → is_some (find_str re value 0) ≡ finds text value

-- the text, as a pattern for the whole value, fits only the equal value
pub record FitsItselfAlone (text : List ℕ) : Type 0 where
  pub at : (value : List ℕ) → IsUtf8 value → ((k : ℕ) → slice_index value k < 256)
      → finds (wrapped false text) value ≡ bytes_eq value text

-- The compiled form means the text with the flag. Nothing is compiled with %l, nor for a text that fits only itself.
abbrev pub IsBuiltFor : Flag → List ℕ → Option Re → Type 0
IsBuiltFor Plain text (Some re) = Means re (wrapped false text)
IsBuiltFor Plain text None = FitsItselfAlone text
IsBuiltFor NoCase text (Some re) = Means re (wrapped true text)
IsBuiltFor NoCase text None = ⊥
IsBuiltFor Literal text (Some re) = ⊥
IsBuiltFor Literal text None = Unit {0}

abbrev pub IsPatternFor : Flag → List ℕ → Option (Box Regex Global) → Type 0
IsPatternFor flag text built = IsBuiltFor flag text (option_map (λ r. regex_pattern r.value) built)

abbrev pub SearchesFor : Flag → List ℕ → Option (Box Matcher Global) → Type 0
SearchesFor flag text matcher = IsBuiltFor flag text (option_map (λ m. matcher_pattern m.value) matcher)
