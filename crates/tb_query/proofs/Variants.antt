-- What the expressions with parts are as tests.
use Rattle.std.proofs.Common.{◌≡◌, ℕ, zero, suc, refl, Box, List, [], ◌∷◌, ◌++◌, map, Vec, Global, sym, ap, ◌∙◌, append_assoc}
use Rattle.tb_syntax.specs.declared.expr.Expr.{Expr}
use Rattle.tb_syntax.specs.declared.expr.Expr.TheVariants.{Denied, Both, Either, rolls-Denied, rolls-Both, rolls-Either}
use Rattle.tb_syntax.specs.declared.expr.Expr.TheFolds.{fold-roll-Expr}
use Rattle.tb_syntax.specs.declared.expr.Literal.{Literal}
use Rattle.tb_syntax.specs.Exprs.{test, test_step}
use Rattle.tb_literal.specs.Literals.{PlainLit}
use Rattle.tb_syntax.specs.Tests.{Test, negated, both, either, tests, denied_times, literals, literals_of}
use Rattle.tb_query.specs.Reading.{with_text, with_texts}
use Rattle.tb_query.proofs.Attachments.{parts_literals, parts_with_each}

pub test-Both : (parts : Vec (Expr Literal) Global) → test (Both parts) ≡ both (tests (map test parts.items))
test-Both parts = ap test (sym (rolls-Both parts)) ∙ fold-roll-Expr Literal (Test Literal) test_step _

pub test-Either : (parts : Vec (Expr Literal) Global) → test (Either parts) ≡ either (tests (map test parts.items))
test-Either parts = ap test (sym (rolls-Either parts)) ∙ fold-roll-Expr Literal (Test Literal) test_step _

pub test-Denied : (n : ℕ) (inner : Box (Expr Literal) Global) → test (Denied n inner) ≡ denied_times n (test inner.value)
test-Denied n inner = ap test (sym (rolls-Denied n inner)) ∙ fold-roll-Expr Literal (Test Literal) test_step _

-- what is denied, however often

times_value : (said : List (List ℕ)) (n : ℕ) (t : Test Literal) → with_texts said (denied_times n t) ≡ denied_times n (with_texts said t)
times_value said zero t = refl
times_value said (suc n) t = times_value said n (negated t)

times_literals : (n : ℕ) (t : Test Literal) → literals (denied_times n t) ≡ literals t
times_literals zero t = refl
times_literals (suc n) t = times_literals n (negated t)

denied_as : (expr : Expr Literal) (n : ℕ) (inner : Box (Expr Literal) Global) (x : Expr Literal) → expr ≡ Denied n inner → x ≡ inner.value → test expr ≡ denied_times n (test x)
denied_as expr n inner x e f = ap test e ∙ test-Denied n inner ∙ ap (λ z. denied_times n (test z)) (sym f)

pub denied_literals : (expr : Expr Literal) (n : ℕ) (inner : Box (Expr Literal) Global) (x : Expr Literal) → expr ≡ Denied n inner → x ≡ inner.value → literals (test x) ≡ literals (test expr)
denied_literals expr n inner x e f = sym (ap literals (denied_as expr n inner x e f) ∙ times_literals n (test x))

pub denied_value : (said : List (List ℕ)) (expr : Expr Literal) (n : ℕ) (inner : Box (Expr Literal) Global) (x : Expr Literal) (t : Test PlainLit) → expr ≡ Denied n inner → x ≡ inner.value →
    t ≡ with_texts said (test x) → denied_times n t ≡ with_texts said (test expr)
denied_value said expr n inner x t e f h =
    ap (denied_times n) h ∙ sym (ap (with_texts said) (denied_as expr n inner x e f) ∙ times_value said n (test x))

-- the same of what a match has found, whose parts are taken as a slice

both_as : (expr : Expr Literal) (parts : Vec (Expr Literal) Global) (xs : List (Expr Literal)) → expr ≡ Both parts → xs ≡ parts.items → test expr ≡ both (tests (map test xs))
both_as expr parts xs e f = ap test e ∙ test-Both parts ∙ ap (λ z. both (tests (map test z))) (sym f)

either_as : (expr : Expr Literal) (parts : Vec (Expr Literal) Global) (xs : List (Expr Literal)) → expr ≡ Either parts → xs ≡ parts.items → test expr ≡ either (tests (map test xs))
either_as expr parts xs e f = ap test e ∙ test-Either parts ∙ ap (λ z. either (tests (map test z))) (sym f)

pub both_literals : (expr : Expr Literal) (parts : Vec (Expr Literal) Global) (xs : List (Expr Literal)) → expr ≡ Both parts → xs ≡ parts.items →
    literals_of (map test xs) ≡ literals (test expr)
both_literals expr parts xs e f = sym (ap literals (both_as expr parts xs e f) ∙ parts_literals (map test xs))

pub either_literals : (expr : Expr Literal) (parts : Vec (Expr Literal) Global) (xs : List (Expr Literal)) → expr ≡ Either parts → xs ≡ parts.items →
    literals_of (map test xs) ≡ literals (test expr)
either_literals expr parts xs e f = sym (ap literals (either_as expr parts xs e f) ∙ parts_literals (map test xs))

pub both_value : (said : List (List ℕ)) (expr : Expr Literal) (parts : Vec (Expr Literal) Global) (xs : List (Expr Literal)) (ts : List (Test PlainLit)) → expr ≡ Both parts → xs ≡ parts.items →
    ts ≡ map (with_texts said) (map test xs) → both (tests ts) ≡ with_texts said (test expr)
both_value said expr parts xs ts e f h =
    ap (λ z. both (tests z)) h ∙ sym (ap (with_texts said) (both_as expr parts xs e f) ∙ ap both (parts_with_each (with_text said) (map test xs)))

pub either_value : (said : List (List ℕ)) (expr : Expr Literal) (parts : Vec (Expr Literal) Global) (xs : List (Expr Literal)) (ts : List (Test PlainLit)) → expr ≡ Either parts → xs ≡ parts.items →
    ts ≡ map (with_texts said) (map test xs) → either (tests ts) ≡ with_texts said (test expr)
either_value said expr parts xs ts e f h =
    ap (λ z. either (tests z)) h ∙ sym (ap (with_texts said) (either_as expr parts xs e f) ∙ ap either (parts_with_each (with_text said) (map test xs)))

-- one expression more is attached

pub one_more : (old new rest total : List (Test PlainLit)) (v w : Test PlainLit) → old ++ w ∷ rest ≡ total → new ≡ old ++ v ∷ [] → v ≡ w → new ++ rest ≡ total
one_more old new rest total v w h n e = ap (λ z. z ++ rest) n ∙ append_assoc old (v ∷ []) rest ∙ ap (λ z. old ++ z ∷ rest) e ∙ h
