-- One fault is told of a text, want of memory aside, and none of a text that says something.
use Rattle.std.proofs.Common.{◌≡◌, ◌<◌, ◌≤◌, ◌+◌, ℕ, List, ◌++◌, length, take, drop, true, false, refl, sym, ap, subst, ◌∙◌, ◌⊎◌, inl, inr, ⊎_elim, append_assoc, arith}
use Rattle.std.proofs.lemmas.Bool.{false≢true, cases_lt}
use Rattle.std.proofs.lemmas.List.{length-take, take-append-drop, take-append-le}
use Rattle.tb_match.specs.Trees.{Tree}
use Rattle.tb_syntax.specs.declared.expr.Literal.{Literal}
use Rattle.tb_syntax.specs.declared.fault.Fault.{Fault}
use Rattle.tb_syntax.specs.declared.fault.Fault.TheVariants.{TooLong, Syntax, TooMany, TooDeep, Repeat, Memory}
use Rattle.tb_syntax.specs.declared.lexeme.Lexeme.{Lexeme}
use Rattle.tb_syntax.specs.declared.lexing.Span.{Span}
use Rattle.tb_syntax.specs.Grammar.{Query, query_text, IsBeginning}
use Rattle.tb_syntax.specs.Limits.{query_count, query_nests, query_repeats}
use Rattle.tb_syntax.specs.Tests.{Test}
use Rattle.tb_syntax.specs.Reading.{IsText, IsWrongAt, IsFault, byte_of}
use Rattle.tb_syntax.specs.Saying.{Says}
use Rattle.tb_syntax.proofs.Lexings.{one_lexing}
use Rattle.tb_syntax.proofs.Unique.{one_derivation}

-- one place is wrong

begins_before : (i j : ℕ) (ls : List Lexeme) → i ≤ j → j ≤ length ls → IsBeginning (take j ls) → IsBeginning (take i ls)
begins_before i j ls le within (rest, (q, spells)) =
    let size = length-take j ls in
    let shorter = sym (take-append-le i (take j ls) (drop j ls) (omega arith)) ∙ ap (take i) (take-append-drop j ls) in
    let parts = sym (ap (λ xs. xs ++ drop i (take j ls)) shorter) ∙ take-append-drop i (take j ls) in
    (drop i (take j ls) ++ rest, (q, spells ∙ ap (λ xs. xs ++ rest) (sym parts) ∙ append_assoc (take i ls) (drop i (take j ls)) rest))

not_before : (ls : List Lexeme) (i j : ℕ) → IsWrongAt ls i → IsWrongAt ls j → i < j → ⊥
not_before ls i j (none, within, begins, wrong) (none', within', begins', wrong') lt =
    wrong (omega arith) (begins_before (i + 1) j ls (omega arith) within' begins')

one_place : (ls : List Lexeme) (i j : ℕ) → IsWrongAt ls i → IsWrongAt ls j → i ≡ j
one_place ls i j v w =
    ⊎_elim (λ lt. absurd (not_before ls i j v w lt))
    (λ le. ⊎_elim (λ lt. absurd (not_before ls j i w v lt)) (λ me. omega arith) (cases_lt j i))
    (cases_lt i j)

-- what is wrong with a derivation
abbrev IsOver : Query → Fault → Type 0
IsOver q TooMany = 32 < query_count q
IsOver q TooDeep = (query_count q ≤ 32) × (query_nests 16 q ≡ false)
IsOver q Repeat = (query_count q ≤ 32) × (query_nests 16 q ≡ true) × (query_repeats 32 q ≡ false)
IsOver q _ = ⊥

one_over : (q : Query) (e f : Fault) → IsOver q e → IsOver q f → e ≡ f
one_over q TooMany TooMany x y = refl
one_over q TooMany TooDeep x y = let few = y.0 in absurd (omega arith)
one_over q TooMany Repeat x y = let few = y.0 in absurd (omega arith)
one_over q TooDeep TooMany x y = let few = x.0 in absurd (omega arith)
one_over q TooDeep TooDeep x y = refl
one_over q TooDeep Repeat x y = absurd (false≢true (sym x.1 ∙ y.1))
one_over q Repeat TooMany x y = let few = x.0 in absurd (omega arith)
one_over q Repeat TooDeep x y = absurd (false≢true (sym y.1 ∙ x.1))
one_over q Repeat Repeat x y = refl
one_over q TooLong f x y = absurd x
one_over q (Syntax b) f x y = absurd x
one_over q Memory f x y = absurd x
one_over q e TooLong x y = absurd y
one_over q e (Syntax b) x y = absurd y
one_over q e Memory x y = absurd y

-- A text is too long, or its lexemes are wrong at a place, or they have a derivation beyond a limit.

abbrev IsLong : List ℕ → Fault → Type 0
IsLong text e = (2000 < length text) × (e ≡ TooLong)

abbrev IsWrong : List ℕ → Fault → Type 0
IsWrong text e = (ls : List Lexeme) × (ss : List Span) × IsText text ls ss × ((i : ℕ) × IsWrongAt ls i × (e ≡ Syntax (byte_of ss i (length text))))

abbrev IsBeyond : List ℕ → Fault → Type 0
IsBeyond text e = (ls : List Lexeme) × (ss : List Span) × IsText text ls ss × ((q : Query) × (query_text q ≡ ls) × IsOver q e)

kind : (text : List ℕ) (e : Fault) → IsFault text e → (e ≡ Memory → ⊥) → IsLong text e ⊎ (IsWrong text e ⊎ IsBeyond text e)
kind text TooLong x not = inl (x, refl)
kind text (Syntax b) (ls, ss, there, (i, wrong, at)) not = inr (inl (ls, ss, there, (i, wrong, ap Syntax at)))
kind text TooMany x not = inr (inr x)
kind text TooDeep (ls, ss, there, (q, spells, few, deep)) not = inr (inr (ls, ss, there, (q, spells, (few, deep))))
kind text Repeat (ls, ss, there, (q, spells, few, deep, times)) not = inr (inr (ls, ss, there, (q, spells, (few, deep, times))))
kind text Memory x not = absurd (not refl)

both_wrong : (text : List ℕ) (e f : Fault) → IsWrong text e → IsWrong text f → e ≡ f
both_wrong text e f (ls, ss, there, (i, wrong, at)) (ms, ts, again, (j, wrong', at')) =
    let same = one_lexing text ls ms ss ts there.1 again.1 in
    let place = one_place ms i j (subst (λ xs. IsWrongAt xs i) same.0 wrong) wrong' in
    at ∙ ap (λ xs. Syntax (byte_of xs i (length text))) same.1 ∙ ap (λ n. Syntax (byte_of ts n (length text))) place ∙ sym at'

both_beyond : (text : List ℕ) (e f : Fault) → IsBeyond text e → IsBeyond text f → e ≡ f
both_beyond text e f (ls, ss, there, (p, spells, over)) (ms, ts, again, (q, spells', over')) =
    let same = one_derivation p q (spells ∙ (one_lexing text ls ms ss ts there.1 again.1).0 ∙ sym spells') in
    one_over q e f (subst (λ r. IsOver r e) same over) over'

apart : (text : List ℕ) (e f : Fault) → IsWrong text e → IsBeyond text f → ⊥
apart text e f (ls, ss, there, (i, wrong, at)) (ms, ts, again, (q, spells, over)) =
    wrong.0 (q, spells ∙ sym (one_lexing text ls ms ss ts there.1 again.1).0)

met : (text : List ℕ) (e f : Fault) → IsLong text e ⊎ (IsWrong text e ⊎ IsBeyond text e) → IsLong text f ⊎ (IsWrong text f ⊎ IsBeyond text f) → e ≡ f
met text e f (inl x) (inl y) = x.1 ∙ sym y.1
met text e f (inl (long, is)) (inr (inl (ls, ss, (short, lexes), there))) = absurd (omega arith)
met text e f (inl (long, is)) (inr (inr (ls, ss, (short, lexes), there))) = absurd (omega arith)
met text e f (inr (inl (ls, ss, (short, lexes), there))) (inl (long, is)) = absurd (omega arith)
met text e f (inr (inr (ls, ss, (short, lexes), there))) (inl (long, is)) = absurd (omega arith)
met text e f (inr (inl x)) (inr (inl y)) = both_wrong text e f x y
met text e f (inr (inl x)) (inr (inr y)) = absurd (apart text e f x y)
met text e f (inr (inr x)) (inr (inl y)) = absurd (apart text f e y x)
met text e f (inr (inr x)) (inr (inr y)) = both_beyond text e f x y

pub one_fault : (text : List ℕ) (e f : Fault) → IsFault text e → IsFault text f → (e ≡ Memory → ⊥) → (f ≡ Memory → ⊥) → e ≡ f
one_fault text e f x y not nor = met text e f (kind text e x not) (kind text f y nor)

-- of a text that says something no fault is told

-- the derivation of a text that is within the limits, and another one
same_derivation : (text : List ℕ) (ls ms : List Lexeme) (ss ts : List Span) (p q : Query) → IsText text ls ss → IsText text ms ts → query_text p ≡ ls → query_text q ≡ ms → q ≡ p
same_derivation text ls ms ss ts p q there again spells spells' =
    one_derivation q p (spells' ∙ sym (one_lexing text ls ms ss ts there.1 again.1).0 ∙ sym spells)

pub no_fault : (text : List ℕ) (t : Tree) (es : List (Test Literal)) (said : List (List ℕ)) (e : Fault) → Says text t es said → IsFault text e → e ≡ Memory
no_fault text t es said TooLong (ls, ss, (p, ((short, lexes), spells, few, flat, fits), pattern, tests), saying) long = absurd (omega arith)
no_fault text t es said (Syntax b) (ls, ss, (p, (there, spells, few, flat, fits), pattern, tests), saying) (ms, ts, again, (i, wrong, at)) =
    absurd (wrong.0 (p, spells ∙ (one_lexing text ls ms ss ts there.1 again.1).0))
no_fault text t es said TooMany (ls, ss, (p, (there, spells, few, flat, fits), pattern, tests), saying) (ms, ts, again, (q, spells', many)) =
    let same = ap query_count (same_derivation text ls ms ss ts p q there again spells spells') in
    absurd (omega arith)
no_fault text t es said TooDeep (ls, ss, (p, (there, spells, few, flat, fits), pattern, tests), saying) (ms, ts, again, (q, spells', less, deep)) =
    absurd (false≢true (sym deep ∙ ap (query_nests 16) (same_derivation text ls ms ss ts p q there again spells spells') ∙ flat))
no_fault text t es said Repeat (ls, ss, (p, (there, spells, few, flat, fits), pattern, tests), saying) (ms, ts, again, (q, spells', less, deep, times)) =
    absurd (false≢true (sym times ∙ ap (query_repeats 32) (same_derivation text ls ms ss ts p q there again spells spells') ∙ fits))
no_fault text t es said Memory says x = refl
