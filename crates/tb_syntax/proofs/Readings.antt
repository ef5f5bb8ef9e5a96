-- A text and its lexemes: what is wrong with one that is no query, and what one says that is a query.
use Rattle.std.proofs.Common.{◌≡◌, ℕ, ◌<◌, ◌≤◌, List, length, map, refl, sym, ap, subst, ◌∙◌, arith, true}
use Rattle.std.proofs.lemmas.List.{length-map}
use Rattle.tb_match.specs.Trees.{Tree}
use Rattle.tb_match.specs.Weight.{Fits}
use Rattle.tb_syntax.specs.declared.expr.Literal.{Literal}
use Rattle.tb_syntax.specs.declared.expr.Expr.{Expr}
use Rattle.tb_syntax.specs.declared.lexeme.Lexeme.{Lexeme}
use Rattle.tb_syntax.specs.declared.lexing.Span.{Span}
use Rattle.tb_syntax.specs.declared.fault.Fault.{Fault}
use Rattle.tb_syntax.specs.declared.fault.Fault.TheVariants.{TooLong, Syntax, TooMany, TooDeep, Repeat, Memory}
use Rattle.tb_syntax.specs.Grammar.{Query, query_text}
use Rattle.tb_syntax.specs.Lexing.{Lexes}
use Rattle.tb_syntax.specs.Exprs.{test}
use Rattle.tb_syntax.specs.Limits.{query_count, query_nests, query_repeats}
use Rattle.tb_syntax.specs.Parsing.{ReadsQuery}
use Rattle.tb_syntax.specs.Pattern.{query_tree, query_tests}
use Rattle.tb_syntax.specs.Tests.{Test}
use Rattle.tb_syntax.specs.Reading.{IsAccepted, IsWrongAt, IsFault, IsPastLimit, byte_of}
use Rattle.tb_syntax.specs.Saying.{IsSaid, Says}
use Rattle.tb_syntax.proofs.Fitting.{query_fits}
use Rattle.tb_syntax.proofs.Lexings.{few}
use Rattle.tb_syntax.proofs.PatternLemmas.{query_size}

pub short : (text : List ℕ) (ls ms : List Lexeme) (ss : List Span) → length text ≤ 2000 → Lexes 0 0 text ls ss → ms ≡ ls → length ms ≤ 2000
short text ls ms ss le h e =
    let n = few text ls ss h in
    omega (arith, ap length e)

pub wrong : (text bytes : List ℕ) (ls ms : List Lexeme) (ss ts : List Span) (i b : ℕ) → bytes ≡ text → length bytes ≤ 2000 → Lexes 0 0 bytes ls ss → ms ≡ ls → ts ≡ ss →
    IsWrongAt ms i → b ≡ byte_of ts i (length bytes) → IsFault text (Syntax b)
wrong text bytes ls ms ss ts i b same le h e f w at = (
  ls,
  ss,
  (omega (arith, ap length same), subst (λ t. Lexes 0 0 t ls ss) same h),
  (i, subst (λ xs. IsWrongAt xs i) e w, at ∙ ap (λ x. byte_of x i (length bytes)) f ∙ ap (λ t. byte_of ss i (length t)) same),
)

-- the lexemes of a query that passes a limit
pub past : (text bytes : List ℕ) (ls ms : List Lexeme) (ss : List Span) (q : Query) (e : Fault) → bytes ≡ text → length bytes ≤ 2000 → Lexes 0 0 bytes ls ss → ms ≡ ls → query_text q ≡ ms →
    IsPastLimit q e → IsFault text e
past text bytes ls ms ss q TooMany same le h f w p = (ls, ss, (omega (arith, ap length same), subst (λ t. Lexes 0 0 t ls ss) same h), (q, w ∙ f, p))
past text bytes ls ms ss q TooDeep same le h f w p = (ls, ss, (omega (arith, ap length same), subst (λ t. Lexes 0 0 t ls ss) same h), (q, w ∙ f, p.0, p.1))
past text bytes ls ms ss q Repeat same le h f w p = (ls, ss, (omega (arith, ap length same), subst (λ t. Lexes 0 0 t ls ss) same h), (q, w ∙ f, p.0, p.1, p.2))
past text bytes ls ms ss q TooLong same le h f w p = absurd p
past text bytes ls ms ss q (Syntax b) same le h f w p = absurd p
past text bytes ls ms ss q Memory same le h f w p = absurd p

-- the lexemes of a query within the limits
pub accepted : (text bytes : List ℕ) (ls ms : List Lexeme) (ss : List Span) (q : Query) → bytes ≡ text → length bytes ≤ 2000 → Lexes 0 0 bytes ls ss → ms ≡ ls → query_text q ≡ ms →
    (query_count q ≤ 32) × (query_nests 16 q ≡ true) × (query_repeats 32 q ≡ true) → IsAccepted text ls ss
accepted text bytes ls ms ss q same le h f w p = (q, ((omega (arith, ap length same), subst (λ t. Lexes 0 0 t ls ss) same h), w ∙ f, p.0, p.1, p.2))

-- what is read of the lexemes of a query within the limits
read_off : (text : List ℕ) (ls ms : List Lexeme) (ss : List Span) (t : Tree) (es : List (Test Literal)) (h : IsAccepted text ls ss) → ms ≡ ls → ReadsQuery ms t es →
    (t ≡ query_tree h.0) × (es ≡ query_tests h.0)
read_off text ls ms ss t es (q, within) same reads = let count = within.2 in reads.at q (within.1 ∙ sym same) (omega arith)

pub says : (text : List ℕ) (ls ms : List Lexeme) (ss : List Span) (t : Tree) (es : List (Test Literal)) (said : List (List ℕ)) → IsAccepted text ls ss → ms ≡ ls → ReadsQuery ms t es →
    IsSaid text ls ss said → Says text t es said
says text ls ms ss t es said h same reads literals =
    let r = read_off text ls ms ss t es h same reads in
    (ls, ss, (h.0, h.1, sym r.0, sym r.1), literals)

-- a query within the limits has so many token expressions
counted : (text : List ℕ) (ls ms : List Lexeme) (ss : List Span) (t : Tree) (xs : List (Expr Literal)) (h : IsAccepted text ls ss) → ms ≡ ls → ReadsQuery ms t (map test xs) →
    length xs ≡ query_count h.0
counted text ls ms ss t xs h same reads = sym (length-map xs test) ∙ ap length (read_off text ls ms ss t (map test xs) h same reads).1 ∙ query_size h.0

pub few_tests : (text : List ℕ) (ls ms : List Lexeme) (ss : List Span) (t : Tree) (xs : List (Expr Literal)) → IsAccepted text ls ss → ms ≡ ls → ReadsQuery ms t (map test xs) →
    length xs ≤ 32
few_tests text ls ms ss t xs h same reads =
    let count = counted text ls ms ss t xs h same reads in
    let limit = h.1.2 in
    omega arith

pub fits : (text : List ℕ) (ls ms : List Lexeme) (ss : List Span) (t : Tree) (xs : List (Expr Literal)) → IsAccepted text ls ss → ms ≡ ls → ReadsQuery ms t (map test xs) →
    Fits (length xs) t
fits text ls ms ss t xs h same reads =
    let size = few text ls ss h.1.0.1 in
    let limit = h.1.0.0 in
    let tree = (read_off text ls ms ss t (map test xs) h same reads).0 in
    subst (λ n. Fits n t) (sym (counted text ls ms ss t xs h same reads))
    (subst (Fits (query_count h.0)) (sym tree) (query_fits h.0 h.1.4 (omega (arith, ap length h.1.1))))

-- the pattern that a text says can be searched for over as many token expressions
pub searchable : (text : List ℕ) (t : Tree) (es : List (Test Literal)) (said : List (List ℕ)) → Says text t es said → Fits (length es) t × (length es ≤ 32)
searchable text t es said (ls, ss, (q, ((short, lexes), spells, count, deep, times), pattern, tests), saying) =
    let size = few text ls ss lexes in
    let many : length es ≡ query_count q = sym (ap length tests) ∙ query_size q in (
      subst (λ n. Fits n t) (sym many) (subst (Fits (query_count q)) pattern (query_fits q times (omega (arith, ap length spells)))),
      omega arith,
    )
