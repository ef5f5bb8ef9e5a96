-- The first literal that is refused, by its place.
use Rattle.std.proofs.Common.{◌≡◌, ℕ, ◌+◌, List, [], ◌∷◌, ◌++◌, length, map, refl, sym, ap, subst, ◌∙◌, arith}
use Rattle.std.proofs.lemmas.List.{map-append, length-map}
use Rattle.tb_match.specs.Trees.{Tree}
use Rattle.tb_syntax.specs.declared.expr.Literal.{Literal}
use Rattle.tb_syntax.specs.Tests.{Test, every, whole, feature, negated, both, either, Tests, no_test, and_test, literals, all_literals, literals_of, with_each, all_with_each}
use Rattle.tb_syntax.specs.Saying.{Says}
use Rattle.tb_query.specs.declared.fault.QueryFault.TheVariants.{Pattern}
use Rattle.tb_query.specs.Refusing.{IsRefusalAmong}
use Rattle.tb_query.specs.Reading.{with_text, with_texts, IsFirstRefused}
use Rattle.tb_query.proofs.Numbering.{IsFrom, numbered}

module _ {L M : Type 0} (f : L → M) where
  mutual
    each_of : (t : Test L) → literals (with_each f t) ≡ map f (literals t)
    each_of every = refl
    each_of (whole a l) = refl
    each_of (feature l) = refl
    each_of (negated t) = each_of t
    each_of (both ts) = each_of_all ts
    each_of (either ts) = each_of_all ts

    each_of_all : (ts : Tests L) → all_literals (all_with_each f ts) ≡ map f (all_literals ts)
    each_of_all no_test = refl
    each_of_all (and_test t ts) =
        ap (λ z. z ++ all_literals (all_with_each f ts)) (each_of t) ∙ ap (λ z. map f (literals t) ++ z) (each_of_all ts)
        ∙ sym (map-append f (literals t) (all_literals ts))

pub texts_of_each : (said : List (List ℕ)) (ts : List (Test Literal)) → literals_of (map (with_texts said) ts) ≡ map (with_text said) (literals_of ts)
texts_of_each said [] = refl
texts_of_each said (t ∷ ts) =
    ap (λ z. z ++ literals_of (map (with_texts said) ts)) (each_of (with_text said) t) ∙ ap (λ z. map (with_text said) (literals t) ++ z) (texts_of_each said ts)
    ∙ sym (map-append (with_text said) (literals t) (literals_of ts))

place_of : (n : ℕ) (before after : List Literal) (l : Literal) → IsFrom n (map (λ (l : Literal). l.number) (before ++ l ∷ after)) → l.number ≡ n + length before
place_of n [] after l h = omega (arith, h.0)
place_of n (b ∷ before) after l h = let more = place_of (n + 1) before after l h.1 in omega arith

pub first_refused : (text : List ℕ) (t : Tree) (es : List (Test Literal)) (said : List (List ℕ)) (k : ℕ) → Says text t es said → IsRefusalAmong said (literals_of es) (Pattern k) →
    IsFirstRefused (literals_of (map (with_texts said) es)) k
first_refused text t es said k (ls, ss, (q, ((short, lexes), spells, few, deep, times), pattern, tests), saying) (before, l, after, parts, number, good, bad) =
    let in_order = numbered text ls ss q es lexes spells tests in
    let place = place_of 0 before after l (subst (λ z. IsFrom 0 (map (λ (l : Literal). l.number) z)) parts in_order) in (
      map (with_text said) before,
      with_text said l,
      map (with_text said) after,
      texts_of_each said es ∙ ap (map (with_text said)) parts ∙ map-append (with_text said) before (l ∷ after),
      omega (arith, length-map before (with_text said)),
      good,
      bad,
    )
