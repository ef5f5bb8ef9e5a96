use Rattle.std.proofs.Common.{[], refl, arith}
use Rattle.tb_tables.specs.Values.{batch_of}
use Rattle.tb_refine.specs.DeskTables.{batch_record}
use Rattle.tb_verify.proofs.Agreeing.{met, agree_more, agree_all}
use Rattle.tb_verify.proofs.machine.are_batches.Goals as goal

pub loop-row-init : goal.loop-row-init
loop-row-init c none = none [] refl

pub loop-row-preserved : goal.loop-row-preserved
loop-row-preserved c = agree_more batch_record batch_of c.args.rows.now c.loop-row.row-index c.row-item.result (omega (arith, c.loop-row-test.true)) c.row-item.is c.loop-row.invariant (c.if-not-is_batch.ensures.yes refl)

pub returns-then-not-is_batch-clause-no : goal.returns-then-not-is_batch-clause-no
returns-then-not-is_batch-clause-no c _ bs same =
    let m = met batch_record batch_of bs c.args.rows.now c.loop-row.row-index c.row-item.result same (omega (arith, c.loop-row-test.true)) c.row-item.is in
    c.if-not-is_batch.ensures.no refl m.0 m.1

pub returns-clause-yes : goal.returns-clause-yes
returns-clause-yes c _ = agree_all batch_record batch_of c.args.rows.now c.loop-row.row-index c.loop-row-test.false c.loop-row.invariant
