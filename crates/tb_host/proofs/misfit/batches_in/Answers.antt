use Rattle.std.proofs.Common.{◌∙◌, ap, arith, map, refl, rules, take_all}
use Rattle.std.proofs.lemmas.Result.{err_from_is_err_and}
use Rattle.tb_host.proofs.Firsts.{one_more_shown, stopped_by}
use Rattle.tb_host.proofs.Numbered.{all_right, none_yet, off_first, one_more_right, takes_memory}
use Rattle.tb_host.specs.Looked.{IsBatchRow, IsRowOff}
use Rattle.tb_host.specs.declared.misfit.Stop.TheVariants.{Failed}
use Rattle.tb_host.specs.declared.misfit.Table.TheVariants.{Batches}
use Rattle.tb_refine.specs.DeskTables.{batch_record}
use Rattle.tb_tables.specs.Values.{batch_of}
use Rattle.tb_host.proofs.misfit.batches_in.Goals as goal

pub loop-at-init : goal.loop-at-init
loop-at-init c = (search rules, none_yet (λ _. IsBatchRow) c.args.rows.now)

pub loop-at-preserved : goal.loop-at-preserved
loop-at-preserved c = (
  ap (map batch_record) c.in_ok-push-in-Some.ensures.items
      ∙ one_more_shown batch_record batch_of c.args.rows.now c.loop-at.batches.items c.loop-at.at c.index-rows-at.result c.in-Some.batch (omega (arith, c.loop-at-test.true)) c.index-rows-at.is c.loop-at.invariant.0 c.in-Some.ensures.record,
  one_more_right (λ _. IsBatchRow) c.args.rows.now c.loop-at.at c.index-rows-at.result (omega (arith, c.loop-at-test.true)) c.index-rows-at.is (c.in-Some.ensures.named, c.in-Some.batch, c.in-Some.ensures.record) c.loop-at.invariant.1,
)

pub returns-in-None-clause-wrong : goal.returns-in-None-clause-wrong
returns-in-None-clause-wrong c = (refl, off_first (λ _. IsBatchRow) c.args.rows.now c.loop-at.at c.index-rows-at.result (omega (arith, c.loop-at-test.true)) c.index-rows-at.is (c.in-None.ensures.none refl) c.loop-at.invariant.1)

pub returns-in_err-push-in-Some-clause-wrong : goal.returns-in_err-push-in-Some-clause-wrong
returns-in_err-push-in-Some-clause-wrong c =
    let p = err_from_is_err_and c.from_residual.result c.from_residual.ensures.1 in
    stopped_by (IsRowOff Batches (λ _. IsBatchRow) c.args.rows.now) c.from_residual.result p.0 Failed p.1 p.2
    (takes_memory (λ _. IsBatchRow) c.args.rows.now c.loop-at.at c.index-rows-at.result (omega (arith, c.loop-at-test.true)) c.index-rows-at.is
    (λ off. off (c.in-Some.ensures.named, c.in-Some.batch, c.in-Some.ensures.record)) c.loop-at.invariant.1)

pub returns-clause-right : goal.returns-clause-right
returns-clause-right c = (
  c.loop-at.invariant.0 ∙ ap (map batch_of) (take_all c.loop-at.at c.args.rows.now (omega (arith, c.loop-at-test.false))),
  all_right (λ _. IsBatchRow) c.args.rows.now c.loop-at.at (omega (arith, c.loop-at-test.false)) c.loop-at.invariant.1,
)
