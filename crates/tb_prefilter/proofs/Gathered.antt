-- What is gathered of expressions.
use Rattle.std.proofs.Common.{◌≡◌, ◌<◌, ℕ, zero, suc, List, [], ◌∷◌, ◌++◌, Bool, true, false, Some, option_map, length, map, get_or, slice_get, Vec, Global, if◌then◌else◌, refl, sym, ap, ◌∙◌, subst, arith}
use Rattle.std.proofs.lemmas.Bool.{false≢true}
use Rattle.std.proofs.lemmas.Option.{slice_get-map, slice_get-get_or}
use Rattle.tb_conllu.specs.Text.{RowText}
use Rattle.tb_syntax.specs.declared.lexeme.Attr.{Attr}
use Rattle.tb_syntax.specs.declared.expr.Expr.{Expr}
use Rattle.tb_syntax.specs.declared.expr.Expr.TheVariants.{Whole, Item, Both, rolls-Whole, rolls-Item, rolls-Both}
use Rattle.tb_syntax.specs.declared.expr.Expr.TheFolds.{fold-roll-Expr}
use Rattle.tb_syntax.specs.Exprs.{test, test_step}
use Rattle.tb_syntax.specs.Tests.{Test, whole, feature, both, tests}
use Rattle.tb_literal.specs.Literals.{PlainLit}
use Rattle.tb_query.specs.Meaning.{holds, all_hold}
use Rattle.tb_query.specs.Search.{Asked}
use Rattle.tb_prefilter.specs.Needed.{AllRequireNothing, IsNeeded, Requires, RequiresNothing, IsPlainText, Entails, IsPartOf}
use Rattle.tb_prefilter.proofs.Fields.{column_required}
use Rattle.tb_prefilter.proofs.Items.{item_required}

module _ (q : Asked) (t : Test PlainLit) where
  weaker : (u : Test PlainLit) (n : List ℕ) → Entails t u → IsPartOf t q → Requires u n → IsNeeded q n
  weaker u n entails part required = part n (record { there = λ r shaped h. required.there r shaped (entails r h) })

  pub column_needed : (a : Attr) (l : PlainLit) (n : List ℕ) → IsPlainText l → Entails t (whole a l) → IsPartOf t q → n ≡ 9 ∷ (l.text ++ 9 ∷ []) → IsNeeded q n
  column_needed a l n plain entails part e = subst (IsNeeded q) (sym e) (weaker (whole a l) (9 ∷ (l.text ++ 9 ∷ [])) entails part (column_required a l plain))

  pub item_needed : (l : PlainLit) (n : List ℕ) → IsPlainText l → Entails t (feature l) → IsPartOf t q → n ≡ l.text → IsNeeded q n
  item_needed l n plain entails part e = subst (IsNeeded q) (sym e) (weaker (feature l) l.text entails part (item_required l plain))

module _ (x : Expr PlainLit) where
  pub is_whole : (a : Attr) (l : PlainLit) → x ≡ Whole a l → test x ≡ whole a l
  is_whole a l is = ap test (is ∙ sym (rolls-Whole a l)) ∙ fold-roll-Expr PlainLit (Test PlainLit) test_step _

  pub is_item : (l : PlainLit) → x ≡ Item l → test x ≡ feature l
  is_item l is = ap test (is ∙ sym (rolls-Item l)) ∙ fold-roll-Expr PlainLit (Test PlainLit) test_step _

  pub is_both : (parts : Vec (Expr PlainLit) Global) (shown : List (Expr PlainLit)) → x ≡ Both parts → shown ≡ parts.items → test x ≡ both (tests (map test shown))
  is_both parts shown is same = ap test (is ∙ sym (rolls-Both parts)) ∙ fold-roll-Expr PlainLit (Test PlainLit) test_step _ ∙ ap (λ (es : List (Expr PlainLit)). both (tests (map test es))) (sym same)

both_true : (b c : Bool) → (if b then c else false) ≡ true → (b ≡ true) × (c ≡ true)
both_true true c h = (refl, h)
both_true false c h = absurd (false≢true h)

part_holds : (es : List (Expr PlainLit)) (k : ℕ) (x : Expr PlainLit) → k < length es → x ≡ get_or es k x → (r : RowText) → all_hold (tests (map test es)) r ≡ true → holds (test x) r ≡ true
part_holds [] k x lt at r h = absurd (omega (arith, lt))
part_holds (e ∷ es) zero x lt at r h = ap (λ y. holds (test y) r) at ∙ (both_true (holds (test e) r) (all_hold (tests (map test es)) r) h).0
part_holds (e ∷ es) (suc k) x lt at r h = part_holds es k x (omega (arith, lt)) at r (both_true (holds (test e) r) (all_hold (tests (map test es)) r) h).1

pub entails_part : (es : List (Expr PlainLit)) (k : ℕ) (x : Expr PlainLit) (t : Test PlainLit) → k < length es → x ≡ get_or es k x → Entails t (both (tests (map test es))) → Entails t (test x)
entails_part es k x t lt at entails = λ r h. part_holds es k x lt at r (entails r h)

-- a part of what requires nothing requires nothing
pub nothing_in_part : (es : List (Expr PlainLit)) (k : ℕ) (x : Expr PlainLit) → k < length es → x ≡ get_or es k x → AllRequireNothing (tests (map test es)) → RequiresNothing (test x)
nothing_in_part [] k x lt at none = absurd (omega (arith, lt))
nothing_in_part (e ∷ es) zero x lt at none = subst (λ y. RequiresNothing (test y)) (sym at) none.0
nothing_in_part (e ∷ es) (suc k) x lt at none = nothing_in_part es k x (omega (arith, lt)) at none.1

-- the test of an expression, by its number
pub test_of : (es : List (Expr PlainLit)) (ts : List (Test PlainLit)) (k : ℕ) (x : Expr PlainLit) → map test es ≡ ts → k < length es → x ≡ get_or es k x → slice_get ts k ≡ Some (test x)
test_of es ts k x same lt at =
    ap (λ us. slice_get us k) (sym same) ∙ slice_get-map test es k ∙ ap (option_map test) (slice_get-get_or es k x lt) ∙ ap (λ y. Some (test y)) (sym at)
