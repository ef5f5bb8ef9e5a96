use Rattle.std.proofs.Common.{map, ◌∙◌, ap, arith}
use Rattle.tb_tables.specs.Values.{batch_of}
use Rattle.tb_refine.specs.DeskTables.{batch_record}
use Rattle.tb_verify.proofs.Agreeing.{met, one_more}
use Rattle.tb_verify.proofs.machine.collected.Goals as goal

pub returns-in_err-batch-clause-unfit : goal.returns-in_err-batch-clause-unfit
returns-in_err-batch-clause-unfit c = λ q bs e.
    let m = met batch_record batch_of bs c.args.rows.now c.loop-row.row-index c.row-item.result e (omega (arith, c.loop-row-test.true)) c.row-item.is in
    c.in_err-batch.ensures.none.1 m.0 m.1

pub loop-row-preserved : goal.loop-row-preserved
loop-row-preserved c =
    ap (map batch_record) c.in_ok-push.ensures.items
    ∙ one_more batch_record batch_of c.args.rows.now c.loop-row.batches.items c.loop-row.row-index c.row-item.result c.in_ok-batch.batch (omega (arith, c.loop-row-test.true)) c.row-item.is c.loop-row.invariant c.in_ok-batch.ensures.record
