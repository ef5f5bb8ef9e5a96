-- What a text asks, and the fault of a text that is no query.
use Rattle.std.specs.Prelude.{◌≡◌, ℕ, ◌+◌, List, [], ◌∷◌, ◌++◌, length, map}
use Rattle.std.specs.List.{slice_get}
use Rattle.std.specs.Option.{unwrap_or}
use Rattle.tb_match.specs.Trees.{Tree}
use Rattle.tb_syntax.specs.declared.expr.Literal.{Literal}
use Rattle.tb_syntax.specs.declared.fault.Fault.TheVariants as reported
use Rattle.tb_syntax.specs.Tests.{Test, literals_of, with_each}
use Rattle.tb_syntax.specs.Reading as syntax
use Rattle.tb_syntax.specs.Saying.{Says}
use Rattle.tb_literal.specs.Literals.{PlainLit, IsAccepted}
use Rattle.tb_query.specs.declared.fault.QueryFault.{QueryFault}
use Rattle.tb_query.specs.declared.fault.QueryFault.TheVariants.{TooLong, Syntax, TooMany, TooDeep, Repeat, Pattern}
use Rattle.tb_query.specs.declared.fault.QueryFault.TheVariants.{Memory}
use Rattle.tb_query.specs.Search.{Asked}

-- the text of literal k, counted from 0
abbrev pub text_of : List (List ℕ) → ℕ → List ℕ
text_of said k = unwrap_or (slice_get said k) []

-- a literal with its text in the place of its number
abbrev pub with_text : List (List ℕ) → Literal → PlainLit
with_text said l = record { text = text_of said l.number; flag = l.flag }

-- a token expression with the texts of its literals in the place of their numbers
abbrev pub with_texts : List (List ℕ) → Test Literal → Test PlainLit
with_texts said = with_each (with_text said)

-- the text is a query within the limits, whose pattern and token expressions are these
abbrev pub Reads : List ℕ → Tree → List (Test PlainLit) → Type 0
Reads text t ts = (es : List (Test Literal)) × (said : List (List ℕ)) × Says text t es said
    × (ts ≡ map (with_texts said) es)

-- each literal is a valid pattern; with %l any text is one
abbrev pub AreAccepted : List PlainLit → Type 0
AreAccepted [] = Unit {0}
AreAccepted (l ∷ ls) = IsAccepted l.flag l.text × AreAccepted ls

-- literal k, counted from 1, is the first that is no valid pattern
abbrev pub IsFirstRefused : List PlainLit → ℕ → Type 0
IsFirstRefused ls k =
    (before : List PlainLit) × (l : PlainLit) × (after : List PlainLit) × (ls ≡ before ++ l ∷ after)
    × (k ≡ length before + 1)
    × AreAccepted before × (IsAccepted l.flag l.text → ⊥)

-- the text asks this
abbrev pub IsQuery : List ℕ → Asked → Type 0
IsQuery text q = Reads text q.pat q.tests × AreAccepted (literals_of q.tests)

-- The fault of a text, the first in this order that holds.
abbrev pub IsFault : List ℕ → QueryFault → Type 0
IsFault text TooLong = syntax.IsFault text reported.TooLong
IsFault text (Syntax b) = syntax.IsFault text (reported.Syntax b)
IsFault text TooMany = syntax.IsFault text reported.TooMany
IsFault text TooDeep = syntax.IsFault text reported.TooDeep
IsFault text Repeat = syntax.IsFault text reported.Repeat
IsFault text (Pattern k) = (t : Tree) × (ts : List (Test PlainLit)) × Reads text t ts
    × IsFirstRefused (literals_of ts) k
IsFault text Memory = Unit {0}
