use Rattle.std.proofs.Common.{sym, ◌∙◌, lit<, rules}
use Rattle.std.specs.List.{slice_split}
use Rattle.tb_fields.specs.Feats.{are_values, is_comma}
use Rattle.tb_fields.proofs.Places.{parts_at}
use Rattle.tb_fields.proofs.Parts.{are_values-cons, are_values-one, fails_here, passes_here}
use Rattle.tb_fields.proofs.feats.holds_few_values.Goals as goal

pub returns-then-not-value_is_fine : goal.returns-then-not-value_is_fine
returns-then-not-value_is_fine c =
    let parts = rw c.in-Some.is at (parts_at 44 c.loop-value.left.now c.split_once.result c.split_once.ensures.cases (lit< tt)) in
    fails_here are_values _ _ (slice_split is_comma c.loop-value.left.now) (are_values-cons (slice_split is_comma c.loop-value.left.now) _ c.in-Some.value.now parts.0) (sym c.value_is_fine.ensures ∙ c.if-not-value_is_fine.true) ∙ c.loop-value.invariant.1

pub loop-value-preserved : goal.loop-value-preserved
loop-value-preserved c =
    let parts = rw c.in-Some.is at (parts_at 44 c.loop-value.left.now c.split_once.result c.split_once.ensures.cases (lit< tt)) in
    (search rules, passes_here are_values _ _ (slice_split is_comma c.loop-value.left.now) (are_values-cons (slice_split is_comma c.loop-value.left.now) _ c.in-Some.value.now parts.0) (sym c.value_is_fine.ensures ∙ c.if-not-value_is_fine.false) ∙ c.loop-value.invariant.1)

pub returns : goal.returns
returns c =
    let parts = rw c.in_default.is at (parts_at 44 c.loop-value.left.now c.split_once.result c.split_once.ensures.cases (lit< tt)) in
    c.is_label_text.ensures ∙ (are_values-one _ c.loop-value.left.now parts ∙ c.loop-value.invariant.1)
