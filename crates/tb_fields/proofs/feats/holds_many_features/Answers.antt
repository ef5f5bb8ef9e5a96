use Rattle.std.proofs.Common.{◌≡◌, List, ℕ, Bool, not, ◌&&◌, map, refl, sym, ap, subst, ◌∙◌, lit<, rules, ◌||◌}
use Rattle.std.proofs.lemmas.Bool.{and_parts, false≢true}
use Rattle.std.specs.List.{slice_split}
use Rattle.std.specs.Result.{IfOk}
use Rattle.std.specs.Str.{bytes_eq}
use Rattle.tb_fields.specs.Feats.{is_bar, feature_name, are_features}
use Rattle.tb_fields.specs.Begun.{begins_as_feature}
use Rattle.tb_fields.specs.Seen.{has_come}
use Rattle.tb_fields.proofs.Places.{first_part, parts_at}
use Rattle.tb_fields.proofs.Parts.{fails_here, passes_here}
use Rattle.tb_fields.proofs.Firsts.{fails_first, feature_begins, passed_first}
use Rattle.tb_fields.proofs.Twice.{are_new_features, new_features_step, new_features_one, new_at_first}
use Rattle.tb_fields.proofs.feats.holds_many_features.Goals as goal

pub loop-item-init : goal.loop-item-init
loop-item-init c = (search rules, new_at_first c.new-seen.result.keys (are_features (slice_split is_bar c.args.text.now)) (map feature_name (slice_split is_bar c.args.text.now)) c.new-seen.ensures.empty, λ _. refl)

pub returns-then-not-branch-clause-value : goal.returns-then-not-branch-clause-value
returns-then-not-branch-clause-value c =
    let parts = rw c.in-Some.is at (parts_at 124 c.loop-item.left.now c.split_once.result c.split_once.ensures.cases (lit< tt)) in
    let old = has_come c.loop-item.seen in
    fails_here (are_new_features old) _ _ (slice_split is_bar c.loop-item.left.now) (new_features_step old (λ q. bytes_eq (feature_name c.in-Some.item.now) q || old q) (slice_split is_bar c.loop-item.left.now) _ c.in-Some.item.now parts.0 (λ q. refl)) (sym c.in_ok-is_new_feature.ensures.new ∙ c.if-not-branch.true) ∙ c.loop-item.invariant.1

pub loop-item-preserved : goal.loop-item-preserved
loop-item-preserved c =
    let parts = rw c.in-Some.is at (parts_at 124 c.loop-item.left.now c.split_once.result c.split_once.ensures.cases (lit< tt)) in
    let first = rw c.in-Some.is at (first_part 124 c.loop-item.left.now c.split_once.result c.split_once.ensures.cases (lit< tt)) in
    let passed = sym c.in_ok-is_new_feature.ensures.new ∙ c.if-not-branch.false in
    let old = has_come c.loop-item.seen in
    (search rules, passes_here (are_new_features old) _ _ (slice_split is_bar c.loop-item.left.now) (new_features_step old (has_come c.is_new_feature.new.seen) (slice_split is_bar c.loop-item.left.now) _ c.in-Some.item.now parts.0 (c.in_ok-is_new_feature.ensures.kept c.if-not-branch.false)) passed ∙ c.loop-item.invariant.1, λ bad. absurd (passed_first begins_as_feature is_bar c.args.text.now c.loop-item.left.now c.in-Some.item.now c.loop-item.invariant.2 first (feature_begins c.in-Some.item.now (and_parts _ _ (and_parts _ _ passed).0).0) bad))

pub returns-then-not-branch-2-clause-value : goal.returns-then-not-branch-2-clause-value
returns-then-not-branch-2-clause-value c =
    let parts = rw c.in_default.is at (parts_at 124 c.loop-item.left.now c.split_once.result c.split_once.ensures.cases (lit< tt)) in
    let old = has_come c.loop-item.seen in
    let none = sym c.in_ok-is_feature_item.ensures.value ∙ c.if-not-branch-2.true in
    sym (ap (λ b. b && not (old (feature_name c.loop-item.left.now))) none) ∙ (new_features_one old (slice_split is_bar c.loop-item.left.now) c.loop-item.left.now parts ∙ c.loop-item.invariant.1)

pub returns-clause-value : goal.returns-clause-value
returns-clause-value c =
    let parts = rw c.in_default.is at (parts_at 124 c.loop-item.left.now c.split_once.result c.split_once.ensures.cases (lit< tt)) in
    let old = has_come c.loop-item.seen in
    let some = sym c.in_ok-is_feature_item.ensures.value ∙ c.if-not-branch-2.false in
    let last = ap (λ (x : List ℕ). not (old x)) c.name_of.ensures ∙ (sym (ap (λ b. b && not (old (feature_name c.loop-item.left.now))) some) ∙ (new_features_one old (slice_split is_bar c.loop-item.left.now) c.loop-item.left.now parts ∙ c.loop-item.invariant.1)) in
    subst (λ (y : Bool). IfOk c.comes_first.result (λ b. b ≡ y)) last c.comes_first.ensures.new

pub returns-in_err-is_new_feature-clause-begun : goal.returns-in_err-is_new_feature-clause-begun
returns-in_err-is_new_feature-clause-begun c = λ bad.
    let first = rw c.in-Some.is at (first_part 124 c.loop-item.left.now c.split_once.result c.split_once.ensures.cases (lit< tt)) in
    absurd (false≢true (c.in_err-is_new_feature.ensures.begun (fails_first begins_as_feature is_bar c.args.text.now c.loop-item.left.now c.in-Some.item.now c.loop-item.invariant.2 first bad)))

pub returns-in_err-is_feature_item-clause-begun : goal.returns-in_err-is_feature_item-clause-begun
returns-in_err-is_feature_item-clause-begun c = λ bad.
    let first = rw c.in_default.is at (first_part 124 c.loop-item.left.now c.split_once.result c.split_once.ensures.cases (lit< tt)) in
    absurd (false≢true (c.in_err-is_feature_item.ensures.begun (fails_first begins_as_feature is_bar c.args.text.now c.loop-item.left.now c.loop-item.left.now c.loop-item.invariant.2 (sym first) bad)))

pub returns-clause-begun : goal.returns-clause-begun
returns-clause-begun c = λ bad.
    let first = rw c.in_default.is at (first_part 124 c.loop-item.left.now c.split_once.result c.split_once.ensures.cases (lit< tt)) in
    let right = feature_begins c.loop-item.left.now (sym c.in_ok-is_feature_item.ensures.value ∙ c.if-not-branch-2.false) in
    absurd (passed_first begins_as_feature is_bar c.args.text.now c.loop-item.left.now c.loop-item.left.now c.loop-item.invariant.2 (sym first) right bad)
