use Rattle.std.proofs.Common.{◌≡◌, Bool, subst, sym, ◌∙◌, arith, lit<, rules}
use Rattle.std.proofs.lemmas.Bool.{and_parts, false≢true}
use Rattle.std.specs.List.{slice_split}
use Rattle.std.specs.Result.{IfOk}
use Rattle.tb_fields.specs.Begun.{begins_as_feature}
use Rattle.tb_fields.specs.Feats.{are_features, is_bar}
use Rattle.tb_fields.proofs.Places.{first_part, parts_at, front_length}
use Rattle.tb_fields.proofs.Parts.{are_features-cons, are_features-one, fails_here, passes_here}
use Rattle.tb_fields.proofs.Firsts.{fails_first, feature_begins, passed_first}
use Rattle.tb_fields.proofs.feats.holds_few_features.Goals as goal

pub returns-then-not-branch-clause-value : goal.returns-then-not-branch-clause-value
returns-then-not-branch-clause-value c =
    let parts = rw c.in-Some.is at (parts_at 124 c.loop-item.left.now c.split_once.result c.split_once.ensures.cases (lit< tt)) in
    fails_here are_features _ _ (slice_split is_bar c.loop-item.left.now) (are_features-cons (slice_split is_bar c.loop-item.left.now) _ c.in-Some.item.now parts.0) (sym c.in_ok-feature_is_fine.ensures.value ∙ c.if-not-branch.true) ∙ c.loop-item.invariant.1

pub loop-item-preserved : goal.loop-item-preserved
loop-item-preserved c =
    let parts = rw c.in-Some.is at (parts_at 124 c.loop-item.left.now c.split_once.result c.split_once.ensures.cases (lit< tt)) in
    let first = rw c.in-Some.is at (first_part 124 c.loop-item.left.now c.split_once.result c.split_once.ensures.cases (lit< tt)) in
    let passed = sym c.in_ok-feature_is_fine.ensures.value ∙ c.if-not-branch.false in (
      search rules,
      passes_here are_features _ _ (slice_split is_bar c.loop-item.left.now) (are_features-cons (slice_split is_bar c.loop-item.left.now) _ c.in-Some.item.now parts.0) passed ∙ c.loop-item.invariant.1,
      omega (arith, parts.1, c.loop-item.invariant.2),
      λ bad. absurd (passed_first begins_as_feature is_bar c.args.text.now c.loop-item.left.now c.in-Some.item.now c.loop-item.invariant.3 first (feature_begins c.in-Some.item.now (and_parts _ _ passed).0) bad),
    )

pub returns-clause-value : goal.returns-clause-value
returns-clause-value c =
    let parts = rw c.in_default.is at (parts_at 124 c.loop-item.left.now c.split_once.result c.split_once.ensures.cases (lit< tt)) in
    subst (λ (y : Bool). IfOk c.is_feature_item.result (λ b. b ≡ y)) (are_features-one _ c.loop-item.left.now parts ∙ c.loop-item.invariant.1) c.is_feature_item.ensures.value

pub returns-in_err-feature_is_fine-clause-sure : goal.returns-in_err-feature_is_fine-clause-sure
returns-in_err-feature_is_fine-clause-sure c = λ short.
    let front = rw c.in-Some.is at (front_length 124 c.loop-item.left.now c.split_once.result c.split_once.ensures.cases (lit< tt)) in
    absurd (false≢true (c.in_err-feature_is_fine.ensures.sure (omega (arith, front, c.loop-item.invariant.2, short))))

pub returns-clause-sure : goal.returns-clause-sure
returns-clause-sure c = λ short. c.is_feature_item.ensures.sure (omega (arith, c.loop-item.invariant.2, short))

pub returns-in_err-feature_is_fine-clause-begun : goal.returns-in_err-feature_is_fine-clause-begun
returns-in_err-feature_is_fine-clause-begun c = λ bad.
    let first = rw c.in-Some.is at (first_part 124 c.loop-item.left.now c.split_once.result c.split_once.ensures.cases (lit< tt)) in
    absurd (false≢true (c.in_err-feature_is_fine.ensures.begun (fails_first begins_as_feature is_bar c.args.text.now c.loop-item.left.now c.in-Some.item.now c.loop-item.invariant.3 first bad)))

pub returns-clause-begun : goal.returns-clause-begun
returns-clause-begun c = λ bad.
    let first = rw c.in_default.is at (first_part 124 c.loop-item.left.now c.split_once.result c.split_once.ensures.cases (lit< tt)) in
    c.is_feature_item.ensures.begun (fails_first begins_as_feature is_bar c.args.text.now c.loop-item.left.now c.loop-item.left.now c.loop-item.invariant.3 (sym first) bad)
