-- The parts of a conjunction or a disjunction, from turn to turn.
use Rattle.std.proofs.Common.{◌≡◌, ◌<◌, ◌+◌, ℕ, zero, suc, not, List, length, get_or, drop, map, Bool, true, false, if◌then◌else◌, sym, ap, ◌∙◌, refl, add-one, drop-cons, arith, Box, Vec, Global}
use Rattle.std.proofs.lemmas.List.{length-map}
use Rattle.std.proofs.lemmas.Bool.Decides.{nat_tests}
use Rattle.std.proofs.Math.ListN.{set, get_or-map}
use Rattle.std.proofs.Math.Seq.{map-set_same}
use Rattle.tb_conllu.specs.Text.{RowText}
use Rattle.tb_query.specs.declared.prepared.PreparedExpr.{PreparedExpr}
use Rattle.tb_query.specs.declared.prepared.PreparedExpr.TheVariants.{Denied, Both, Either, rolls-Denied, rolls-Both, rolls-Either}
use Rattle.tb_query.specs.declared.prepared.PreparedExpr.TheOpen.{PreparedExpr-F}
use Rattle.tb_query.specs.declared.prepared.PreparedExpr.TheFolds.{fold-roll-PreparedExpr}
use Rattle.tb_query.specs.PreparedExprs.{asked, asked_step}
use Rattle.tb_literal.specs.Literals.{PlainLit}
use Rattle.tb_syntax.specs.Tests.{Test, tests, negated, denied_times, both, either}
use Rattle.tb_query.specs.Meaning.{is_odd, holds, all_hold, some_hold}

all_at : (ts : List (Test PlainLit)) (i : ℕ) (r : RowText) (d : Test PlainLit) → i < length ts →
    all_hold (tests (drop i ts)) r ≡ (if holds (get_or ts i d) r then all_hold (tests (drop (i + 1) ts)) r else false)
all_at ts i r d lt = rw (add-one, drop-cons ts i d lt) refl

some_at : (ts : List (Test PlainLit)) (i : ℕ) (r : RowText) (d : Test PlainLit) → i < length ts →
    some_hold (tests (drop i ts)) r ≡ (if holds (get_or ts i d) r then true else some_hold (tests (drop (i + 1) ts)) r)
some_at ts i r d lt = rw (add-one, drop-cons ts i d lt) refl

module _ (xs : List PreparedExpr) (ts : List (Test PlainLit)) (i : ℕ) (d : PreparedExpr) (same : map asked xs ≡ ts) where
  -- one part was asked, and is asked for what it was
  pub same_after : (y : PreparedExpr) → asked y ≡ asked (get_or xs i d) → map asked (set xs i y) ≡ ts
  same_after y e = map-set_same asked xs i y d e ∙ same

  test_at : get_or ts i (asked d) ≡ asked (get_or xs i d)
  test_at = ap (λ us. get_or us i (asked d)) (sym same) ∙ get_or-map asked xs i d

  pub all_next : (r : RowText) (b : Bool) → i < length xs → b ≡ holds (asked (get_or xs i d)) r →
      all_hold (tests (drop i ts)) r ≡ (if b then all_hold (tests (drop (i + 1) ts)) r else false)
  all_next r b lt e =
      all_at ts i r (asked d) (omega (arith, length-map xs asked, ap length same))
      ∙ ap (λ c. if c then all_hold (tests (drop (i + 1) ts)) r else false) (ap (λ u. holds u r) test_at ∙ sym e)

  pub some_next : (r : RowText) (b : Bool) → i < length xs → b ≡ holds (asked (get_or xs i d)) r →
      some_hold (tests (drop i ts)) r ≡ (if b then true else some_hold (tests (drop (i + 1) ts)) r)
  some_next r b lt e =
      some_at ts i r (asked d) (omega (arith, length-map xs asked, ap length same))
      ∙ ap (λ c. if c then true else some_hold (tests (drop (i + 1) ts)) r) (ap (λ u. holds u r) test_at ∙ sym e)

pub asked-Denied : (n : ℕ) (b : Box PreparedExpr Global) → asked (Denied n b) ≡ denied_times n (asked b.value)
asked-Denied n b = ap asked (sym (rolls-Denied n b)) ∙ fold-roll-PreparedExpr (Test PlainLit) asked_step (PreparedExpr-F.Denied n b)

-- denials, one after the other

abbrev turned : ℕ → Bool → Bool
turned zero b = b
turned (suc n) b = turned n (not b)

denied_turned : (n : ℕ) (t : Test PlainLit) (r : RowText) → holds (denied_times n t) r ≡ turned n (holds t r)
denied_turned zero t r = refl
denied_turned (suc n) t r = denied_turned n (negated t) r

odd_next : (n : ℕ) → is_odd (suc n) ≡ not (is_odd n)
odd_next n = grind (arith, nat_tests)

turn : (o b : Bool) → (if o then not (not b) else not b) ≡ (if not o then not b else b)
turn true true = refl
turn true false = refl
turn false true = refl
turn false false = refl

turned_is : (n : ℕ) (b : Bool) → turned n b ≡ (if is_odd n then not b else b)
turned_is zero b = refl
turned_is (suc n) b = turned_is n (not b) ∙ turn (is_odd n) b ∙ ap (λ o. if o then not b else b) (sym (odd_next n))

pub denied_holds : (n : ℕ) (t : Test PlainLit) (r : RowText) → holds (denied_times n t) r ≡ (if is_odd n then not (holds t r) else holds t r)
denied_holds n t r = denied_turned n t r ∙ turned_is n (holds t r)

pub asked-Both : (v : Vec PreparedExpr Global) → asked (Both v) ≡ both (tests (map asked v.items))
asked-Both v = ap asked (sym (rolls-Both v)) ∙ fold-roll-PreparedExpr (Test PlainLit) asked_step (PreparedExpr-F.Both v)

pub asked-Either : (v : Vec PreparedExpr Global) → asked (Either v) ≡ either (tests (map asked v.items))
asked-Either v = ap asked (sym (rolls-Either v)) ∙ fold-roll-PreparedExpr (Test PlainLit) asked_step (PreparedExpr-F.Either v)
