-- Any lexemes are a query or are wrong at a place, any query is within the limits or beyond one, and so any text says something or has a fault.
use Rattle.std.proofs.Common.{◌≡◌, ℕ, suc, ◌+◌, ◌<◌, List, [], ◌∷◌, length, take, Option, Some, None, option_and_then, refl, sym, ap, subst, ◌∙◌, ◌⊎◌, inl, inr, arith, add-one}
use Rattle.std.proofs.lemmas.Bool.{cases_lt}
use Rattle.tb_match.specs.Trees.{Tree}
use Rattle.tb_syntax.specs.declared.expr.Literal.{Literal}
use Rattle.tb_syntax.specs.declared.fault.Fault.{Fault}
use Rattle.tb_syntax.specs.declared.fault.Fault.TheVariants.{TooLong, Syntax, TooMany, TooDeep, Repeat, Memory}
use Rattle.tb_syntax.specs.declared.lexeme.Lexeme.{Lexeme}
use Rattle.tb_syntax.specs.declared.lexing.Span.{Span}
use Rattle.tb_syntax.specs.declared.scanning.Place.{Place}
use Rattle.tb_syntax.specs.Grammar.{Query, query_text, IsQuery}
use Rattle.tb_syntax.specs.Limits.{query_count, query_nests, query_repeats}
use Rattle.tb_syntax.specs.Machine.{run, step, ends, start}
use Rattle.tb_syntax.specs.Pattern.{query_tree, query_tests}
use Rattle.tb_syntax.specs.Tests.{Test}
use Rattle.tb_syntax.specs.Reading.{IsText, IsWithin, IsWrongAt, IsFault, byte_of}
use Rattle.tb_syntax.specs.Saying.{Says}
use Rattle.tb_syntax.proofs.Beginnings.{begins, begins_none}
use Rattle.tb_syntax.proofs.Firsts.{either}
use Rattle.tb_syntax.proofs.ScanLemmas.{begins_all, not_past, ends_well, ends_badly}
use Rattle.tb_syntax.proofs.AnyText.{has_lexemes, says_something}

-- the machine goes over the lexemes, or stops at one
abbrev GoesOver : Place → List Lexeme → Type 0
GoesOver p ls = (q : Place) × (run p ls ≡ Some q)

abbrev StopsAt : Place → List Lexeme → Type 0
StopsAt p ls = (i : ℕ) × (q : Place) × (i < length ls) × (run p (take i ls) ≡ Some q) × (run p (take (suc i) ls) ≡ None)

abbrev after : List Lexeme → Option Place → Option Place
after ls o = option_and_then (λ q. run q ls) o

stepped : (p : Place) (l : Lexeme) (ls : List Lexeme) → ((q : Place) → GoesOver q ls ⊎ StopsAt q ls) → (o : Option Place) → step p l ≡ o →
    GoesOver p (l ∷ ls) ⊎ StopsAt p (l ∷ ls)
stepped p l ls onward None e = inr (0, p, omega arith, refl, ap (after []) e)
stepped p l ls onward (Some q) e =
    elim (onward q) [
      | inl (r, goes) ↦ inl (r, ap (after ls) e ∙ goes)
      | inr (i, r, lt, goes, none) ↦ inr (suc i, r, omega arith, ap (after (take i ls)) e ∙ goes, ap (after (take (suc i) ls)) e ∙ none)
    ]

goes_or_stops : (p : Place) (ls : List Lexeme) → GoesOver p ls ⊎ StopsAt p ls
goes_or_stops p [] = inl (p, refl)
goes_or_stops p (l ∷ ls) = stepped p l ls (λ q. goes_or_stops q ls) (step p l) refl

-- where the machine is at the end
at_end : (ls : List Lexeme) (q : Place) → run start ls ≡ Some q → IsQuery ls ⊎ ((i : ℕ) × IsWrongAt ls i)
at_end ls q goes =
    elim (either (ends (Some q))) [
      | inl e ↦ inl (ends_well ls q goes e)
      | inr e ↦ inr (length ls, (ends_badly ls q goes e, omega arith, begins_all ls q goes, λ lt. absurd (omega arith)))
    ]

stopped : (ls : List Lexeme) (i : ℕ) (q : Place) → i < length ls → run start (take i ls) ≡ Some q → run start (take (i + 1) ls) ≡ None → IsWrongAt ls i
stopped ls i q lt goes none = (not_past ls (i + 1) none, omega arith, begins (take i ls) q goes, λ _. begins_none (take (i + 1) ls) none)

-- lexemes are a query, or are wrong at a place
pub query_or_wrong : (ls : List Lexeme) → IsQuery ls ⊎ ((i : ℕ) × IsWrongAt ls i)
query_or_wrong ls =
    elim (goes_or_stops start ls) [
      | inl (q, goes) ↦ at_end ls q goes
      | inr (i, q, lt, goes, none) ↦ inr (i, stopped ls i q lt goes (subst (λ n. run start (take n ls) ≡ None) (sym (add-one i)) none))
    ]

-- a text says something, or a fault is told of it
abbrev IsReported : List ℕ → Type 0
IsReported text = ((t : Tree) × (es : List (Test Literal)) × (said : List (List ℕ)) × Says text t es said) ⊎ ((e : Fault) × (e ≡ Memory → ⊥) × IsFault text e)

within : (text : List ℕ) (ls : List Lexeme) (ss : List Span) (q : Query) → IsWithin text ls ss q → IsReported text
within text ls ss q h =
    let w = says_something text ls ss h.0.1 in
    inl (query_tree q, query_tests q, w.0, (ls, ss, (q, h, refl, refl), w.1))

-- a query is within the limits, or beyond the first of them
limited : (text : List ℕ) (ls : List Lexeme) (ss : List Span) (q : Query) → IsText text ls ss → query_text q ≡ ls → IsReported text
limited text ls ss q there spells =
    elim (cases_lt 32 (query_count q)) [
      | inl many ↦ inr (TooMany, (λ e. cc (e)), (ls, ss, there, (q, spells, many)))
      | inr few ↦ elim (either (query_nests 16 q)) [
        | inr deep ↦ inr (TooDeep, (λ e. cc (e)), (ls, ss, there, (q, spells, few, deep)))
        | inl flat ↦ elim (either (query_repeats 32 q)) [
          | inr times ↦ inr (Repeat, (λ e. cc (e)), (ls, ss, there, (q, spells, few, flat, times)))
          | inl fits ↦ within text ls ss q (there, spells, few, flat, fits)
        ]
      ]
    ]

short_reported : (text : List ℕ) (ls : List Lexeme) (ss : List Span) → IsText text ls ss → IsReported text
short_reported text ls ss there =
    elim (query_or_wrong ls) [
      | inl (q, spells) ↦ limited text ls ss q there spells
      | inr (i, wrong) ↦ inr (Syntax (byte_of ss i (length text)), (λ e. cc (e)), (ls, ss, there, (i, wrong, refl)))
    ]

pub reported : (text : List ℕ) → IsReported text
reported text =
    elim (cases_lt 2000 (length text)) [
      | inl long ↦ inr (TooLong, (λ e. cc (e)), long)
      | inr short ↦ (let h = has_lexemes text in short_reported text h.0 h.1 (short, h.2))
    ]
