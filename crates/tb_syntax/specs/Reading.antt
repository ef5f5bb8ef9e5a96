-- Which texts are queries within the limits, and the fault of a text that is none.
use Rattle.std.specs.Prelude.{◌≡◌, ℕ, ◌+◌, ◌<◌, ◌≤◌, List, length, take, true, false, option_map}
use Rattle.std.specs.List.{slice_get}
use Rattle.std.specs.Option.{unwrap_or}
use Rattle.tb_match.specs.Trees.{Tree}
use Rattle.tb_syntax.specs.declared.expr.Literal.{Literal}
use Rattle.tb_syntax.specs.declared.lexeme.Lexeme.{Lexeme}
use Rattle.tb_syntax.specs.declared.lexing.Span.{Span}
use Rattle.tb_syntax.specs.declared.fault.Fault.{Fault}
use Rattle.tb_syntax.specs.declared.fault.Fault.TheVariants.{TooLong, Syntax, TooMany, TooDeep, Repeat, Memory}
use Rattle.tb_syntax.specs.Grammar.{Query, query_text, IsQuery, IsBeginning}
use Rattle.tb_syntax.specs.Lexing.{Lexes}
use Rattle.tb_syntax.specs.Limits.{query_count, query_nests, query_repeats}
use Rattle.tb_syntax.specs.Pattern.{query_tree, query_tests}
use Rattle.tb_syntax.specs.Tests.{Test}

-- the text is short enough, and has these lexemes at these places
abbrev pub IsText : List ℕ → List Lexeme → List Span → Type 0
IsText text ls ss = (length text ≤ 2000) × Lexes 0 0 text ls ss

-- The text is a query within the limits: at most 32 token expressions, 16 round parentheses open at one place, and
-- numbers of repetitions up to 32.
abbrev pub IsWithin : List ℕ → List Lexeme → List Span → Query → Type 0
IsWithin text ls ss q = IsText text ls ss × (query_text q ≡ ls) × (query_count q ≤ 32)
    × (query_nests 16 q ≡ true) × (query_repeats 32 q ≡ true)

abbrev pub IsAccepted : List ℕ → List Lexeme → List Span → Type 0
IsAccepted text ls ss = (q : Query) × IsWithin text ls ss q

-- the text is a query within the limits
abbrev pub IsQueryText : List ℕ → Type 0
IsQueryText text = (ls : List Lexeme) × (ss : List Span) × IsAccepted text ls ss

-- the text is such a query, with this pattern and these token expressions
abbrev pub IsRead : List ℕ → List Lexeme → List Span → Tree → List (Test Literal) → Type 0
IsRead text ls ss t es = (q : Query) × IsWithin text ls ss q × (query_tree q ≡ t) × (query_tests q ≡ es)

-- Some query begins with the lexemes before number i. None begins with lexeme i after them too, or, at the end, the
-- lexemes are no query.
abbrev pub IsWrongAt : List Lexeme → ℕ → Type 0
IsWrongAt ls i = (IsQuery ls → ⊥) × (i ≤ length ls) × IsBeginning (take i ls)
    × (i < length ls → IsBeginning (take (i + 1) ls) → ⊥)

-- the place where the lexeme with this number begins, or the end of a text of n bytes
abbrev pub byte_of : List Span → ℕ → ℕ → ℕ
byte_of ss i n = unwrap_or (option_map (λ (s : Span). s.start) (slice_get ss i)) n

-- the first limit that a query passes
abbrev pub IsPastLimit : Query → Fault → Type 0
IsPastLimit q TooMany = 32 < query_count q
IsPastLimit q TooDeep = (query_count q ≤ 32) × (query_nests 16 q ≡ false)
IsPastLimit q Repeat = (query_count q ≤ 32) × (query_nests 16 q ≡ true) × (query_repeats 32 q ≡ false)
IsPastLimit q TooLong = ⊥
IsPastLimit q (Syntax b) = ⊥
IsPastLimit q Memory = ⊥

-- The fault of a text, the first in this order that holds.
abbrev pub IsFault : List ℕ → Fault → Type 0
IsFault text TooLong = 2000 < length text
IsFault text (Syntax b) = (ls : List Lexeme) × (ss : List Span) × IsText text ls ss × ((i : ℕ) × IsWrongAt ls i
    × (b ≡ byte_of ss i (length text)))
IsFault text TooMany = (ls : List Lexeme) × (ss : List Span) × IsText text ls ss
    × ((q : Query) × (query_text q ≡ ls) × (32 < query_count q))
IsFault text TooDeep =
    (ls : List Lexeme) × (ss : List Span) × IsText text ls ss × ((q : Query) × (query_text q ≡ ls)
    × (query_count q ≤ 32) × (query_nests 16 q ≡ false))
IsFault text Repeat =
    (ls : List Lexeme) × (ss : List Span) × IsText text ls ss
    × ((q : Query) × (query_text q ≡ ls) × (query_count q ≤ 32) × (query_nests 16 q ≡ true)
    × (query_repeats 32 q ≡ false))
IsFault text Memory = Unit {0}
