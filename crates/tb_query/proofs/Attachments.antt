-- Literals that are accepted or refused, in lists of them.
use Rattle.std.proofs.Common.{◌≡◌, ℕ, List, [], ◌∷◌, ◌++◌, map, refl, sym, ap, subst, ◌∙◌, append_assoc}
use Rattle.std.proofs.lemmas.List.{map-append}
use Rattle.tb_syntax.specs.declared.expr.Literal.{Literal}
use Rattle.tb_syntax.specs.Tests.{Test, tests, and_test, literals, all_literals, literals_of, with_each, all_with_each}
use Rattle.tb_literal.specs.Literals.{PlainLit}
use Rattle.tb_query.specs.declared.fault.QueryFault.{QueryFault}
use Rattle.tb_query.specs.declared.fault.QueryFault.TheVariants.{TooLong, Syntax, TooMany, TooDeep, Repeat, Pattern, Memory}
use Rattle.tb_query.specs.Refusing.{IsRefusalAmong}
use Rattle.tb_query.specs.Reading.{with_text, AreAccepted}

accepted_both : (xs ys : List PlainLit) → AreAccepted xs → AreAccepted ys → AreAccepted (xs ++ ys)
accepted_both [] ys p q = q
accepted_both (x ∷ xs) ys p q = (p.0, accepted_both xs ys p.1 q)

pub accepted_append : (said : List (List ℕ)) (ls ms : List Literal) → AreAccepted (map (with_text said) ls) → AreAccepted (map (with_text said) ms) →
    AreAccepted (map (with_text said) (ls ++ ms))
accepted_append said ls ms p q = subst AreAccepted (sym (map-append (with_text said) ls ms)) (accepted_both (map (with_text said) ls) (map (with_text said) ms) p q)

-- and among those that come after accepted ones
pub refused_after : (said : List (List ℕ)) (ls ms : List Literal) (e : QueryFault) → AreAccepted (map (with_text said) ls) → IsRefusalAmong said ms e →
    IsRefusalAmong said (ls ++ ms) e
refused_after said ls ms (Pattern k) a (before, l, after, parts, number, good, bad) =
    (ls ++ before, l, after, ap (λ x. ls ++ x) parts ∙ sym (append_assoc ls before (l ∷ after)), number, accepted_append said ls before a good, bad)
refused_after said ls ms Memory a h = tt
refused_after said ls ms TooLong a h = absurd h
refused_after said ls ms (Syntax b) a h = absurd h
refused_after said ls ms TooMany a h = absurd h
refused_after said ls ms TooDeep a h = absurd h
refused_after said ls ms Repeat a h = absurd h

-- the parts of a test

pub parts_literals : {L : Type 0} (ts : List (Test L)) → all_literals (tests ts) ≡ literals_of ts
parts_literals [] = refl
parts_literals (t ∷ ts) = ap (λ x. literals t ++ x) (parts_literals ts)

pub parts_with_each : {L M : Type 0} (f : L → M) (ts : List (Test L)) → all_with_each f (tests ts) ≡ tests (map (with_each f) ts)
parts_with_each f [] = refl
parts_with_each f (t ∷ ts) = ap (and_test (with_each f t)) (parts_with_each f ts)
