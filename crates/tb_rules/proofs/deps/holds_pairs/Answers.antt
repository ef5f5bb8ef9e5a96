use Rattle.std.proofs.Common.{sym, ◌∙◌, lit<, rules}
use Rattle.std.specs.List.{slice_split}
use Rattle.tb_fields.specs.Feats.{is_bar}
use Rattle.tb_rules.specs.Places.{are_placed_pairs}
use Rattle.tb_fields.proofs.Places.{parts_at}
use Rattle.tb_fields.proofs.Parts.{fails_here, passes_here}
use Rattle.tb_rules.proofs.Numerals.{are_pairs-cons, are_pairs-one}
use Rattle.tb_rules.proofs.deps.holds_pairs.Goals as goal

pub returns-then-not-pair_is_fine : goal.returns-then-not-pair_is_fine
returns-then-not-pair_is_fine g c =
    let parts = rw c.in-Some.is at (parts_at 124 c.loop-pair.left.now c.split_once.result c.split_once.ensures.cases (lit< tt)) in
    fails_here (are_placed_pairs c.args.heads.now.rows.now) _ _ (slice_split is_bar c.loop-pair.left.now) (are_pairs-cons c.args.heads.now.rows.now (slice_split is_bar c.loop-pair.left.now) _ c.in-Some.pair.now parts.0) (sym c.pair_is_fine.ensures ∙ c.if-not-pair_is_fine.true) ∙ c.loop-pair.invariant.1

pub loop-pair-preserved : goal.loop-pair-preserved
loop-pair-preserved g c =
    let parts = rw c.in-Some.is at (parts_at 124 c.loop-pair.left.now c.split_once.result c.split_once.ensures.cases (lit< tt)) in
    (search rules, passes_here (are_placed_pairs c.args.heads.now.rows.now) _ _ (slice_split is_bar c.loop-pair.left.now) (are_pairs-cons c.args.heads.now.rows.now (slice_split is_bar c.loop-pair.left.now) _ c.in-Some.pair.now parts.0) (sym c.pair_is_fine.ensures ∙ c.if-not-pair_is_fine.false) ∙ c.loop-pair.invariant.1)

pub returns : goal.returns
returns g c =
    let parts = rw c.in_default.is at (parts_at 124 c.loop-pair.left.now c.split_once.result c.split_once.ensures.cases (lit< tt)) in
    c.is_pair_in.ensures ∙ (are_pairs-one c.args.heads.now.rows.now _ c.loop-pair.left.now parts ∙ c.loop-pair.invariant.1)
