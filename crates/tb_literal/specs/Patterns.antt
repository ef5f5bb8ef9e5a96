-- What a pattern is, and when it is found in a value, by regex's definition alone: no compiled pattern is named.
-- The syntax is that of Rust's regex crate (its documentation, "Syntax"). As in CQP, a pattern has to match the whole
-- value, and with %c it ignores case (The CQP Query Language Manual, on regular expressions and their flags).
use Rattle.std.specs.Prelude.{◌≤◌, ℕ, List, ◌++◌, Bool, false, Option, None, Some, IsSomeAnd, chars, codes}
use Rattle.std.specs.Prelude.{is_some, if◌then◌else◌}
use Rattle.regex_syntax.specs.Grammar.{Names, read}
use Rattle.regex_syntax.specs.Brackets.{Nested}
use Rattle.regex.specs.Patterns.{Re, find_str, default_config}

-- the text, parsed by regex's grammar, or None where it is outside it
abbrev pub read_pattern : List ℕ → Option (Nested Re × Names)
read_pattern text = read default_config (chars text)

-- the text is in regex's grammar, and nests no deeper than regex allows
unfoldable pub IsPattern : List ℕ → Type 0
IsPattern text = IsSomeAnd (read_pattern text) (λ (re, _). re.depth ≤ default_config.nest_limit)

-- the parsed pattern has a match somewhere in the value
abbrev pub tree_finds : Option (Nested Re × Names) → List ℕ → Bool
tree_finds None value = false
tree_finds (Some (re, _)) value = is_some (find_str re.value value 0)

-- the text, parsed as a pattern, has a match somewhere in the value
unfoldable pub finds : List ℕ → List ℕ → Bool
finds text value = tree_finds (read_pattern text) value

-- the text between the beginning of the value, \A, and its end, \z
abbrev pub wrapped : Bool → List ℕ → List ℕ
wrapped no_case text = (if no_case then codes "\\A(?i:" else codes "\\A(?:") ++ text ++ codes ")\\z"

-- The text is a pattern alone and wrapped. So `a)|(b` is none, since it would match a part of the value. Nor is
-- `(?x)a#`, whose comment would swallow the end of the wrapping.
abbrev pub IsWhole : Bool → List ℕ → Type 0
IsWhole no_case text = IsPattern text × IsPattern (wrapped no_case text)
