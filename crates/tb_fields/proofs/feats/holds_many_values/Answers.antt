use Rattle.std.proofs.Common.{◌≡◌, Bool, refl, sym, subst, ◌∙◌, lit<, rules, ◌||◌}
use Rattle.std.proofs.lemmas.Bool.{and_parts, false≢true}
use Rattle.std.specs.List.{slice_split}
use Rattle.std.specs.Result.{IfOk}
use Rattle.std.specs.Str.{bytes_eq}
use Rattle.tb_fields.specs.Feats.{is_comma, is_label, are_values}
use Rattle.tb_fields.specs.Seen.{has_come}
use Rattle.tb_fields.proofs.Places.{first_part, parts_at}
use Rattle.tb_fields.proofs.Parts.{fails_here, passes_here}
use Rattle.tb_fields.proofs.Firsts.{fails_first, passed_first}
use Rattle.tb_fields.proofs.Twice.{are_new_values, new_values_step, new_values_one, new_at_first}
use Rattle.tb_fields.proofs.feats.holds_many_values.Goals as goal

pub loop-value-init : goal.loop-value-init
loop-value-init c = (search rules, new_at_first c.new-seen.result.keys (are_values (slice_split is_comma c.args.text.now)) (slice_split is_comma c.args.text.now) c.new-seen.ensures.empty, λ _. refl)

pub returns-then-not-branch-clause-value : goal.returns-then-not-branch-clause-value
returns-then-not-branch-clause-value c =
    let parts = rw c.in-Some.is at (parts_at 44 c.loop-value.left.now c.split_once.result c.split_once.ensures.cases (lit< tt)) in
    let old = has_come c.loop-value.seen in
    fails_here (are_new_values old) _ _ (slice_split is_comma c.loop-value.left.now) (new_values_step old (λ q. bytes_eq c.in-Some.value.now q || old q) (slice_split is_comma c.loop-value.left.now) _ c.in-Some.value.now parts.0 (λ q. refl)) (sym c.in_ok-is_new_value.ensures.new ∙ c.if-not-branch.true) ∙ c.loop-value.invariant.1

pub loop-value-preserved : goal.loop-value-preserved
loop-value-preserved c =
    let parts = rw c.in-Some.is at (parts_at 44 c.loop-value.left.now c.split_once.result c.split_once.ensures.cases (lit< tt)) in
    let first = rw c.in-Some.is at (first_part 44 c.loop-value.left.now c.split_once.result c.split_once.ensures.cases (lit< tt)) in
    let passed = sym c.in_ok-is_new_value.ensures.new ∙ c.if-not-branch.false in
    let old = has_come c.loop-value.seen in
    (search rules, passes_here (are_new_values old) _ _ (slice_split is_comma c.loop-value.left.now) (new_values_step old (has_come c.is_new_value.new.seen) (slice_split is_comma c.loop-value.left.now) _ c.in-Some.value.now parts.0 (c.in_ok-is_new_value.ensures.kept c.if-not-branch.false)) passed ∙ c.loop-value.invariant.1, λ bad. absurd (passed_first is_label is_comma c.args.text.now c.loop-value.left.now c.in-Some.value.now c.loop-value.invariant.2 first (and_parts _ _ passed).0 bad))

pub returns-clause-value : goal.returns-clause-value
returns-clause-value c =
    let parts = rw c.in_default.is at (parts_at 44 c.loop-value.left.now c.split_once.result c.split_once.ensures.cases (lit< tt)) in
    subst (λ (y : Bool). IfOk c.is_new_value-2.result (λ b. b ≡ y)) (new_values_one (has_come c.loop-value.seen) (slice_split is_comma c.loop-value.left.now) c.loop-value.left.now parts ∙ c.loop-value.invariant.1) c.is_new_value-2.ensures.new

pub returns-in_err-is_new_value-clause-begun : goal.returns-in_err-is_new_value-clause-begun
returns-in_err-is_new_value-clause-begun c = λ bad.
    let first = rw c.in-Some.is at (first_part 44 c.loop-value.left.now c.split_once.result c.split_once.ensures.cases (lit< tt)) in
    absurd (false≢true (c.in_err-is_new_value.ensures.sure (fails_first is_label is_comma c.args.text.now c.loop-value.left.now c.in-Some.value.now c.loop-value.invariant.2 first bad)))

pub returns-clause-begun : goal.returns-clause-begun
returns-clause-begun c = λ bad.
    let first = rw c.in_default.is at (first_part 44 c.loop-value.left.now c.split_once.result c.split_once.ensures.cases (lit< tt)) in
    c.is_new_value-2.ensures.sure (fails_first is_label is_comma c.args.text.now c.loop-value.left.now c.loop-value.left.now c.loop-value.invariant.2 (sym first) bad)
