use Rattle.std.proofs.Common.{arith}
use Rattle.std.proofs.lemmas.Result.{err_from_is_err_and}
use Rattle.tb_host.proofs.Firsts.{stopped_by}
use Rattle.tb_host.proofs.Numbered.{all_right, none_yet, off_by, one_more_right}
use Rattle.tb_host.specs.Looked.{IsMoveRow, IsRowOff}
use Rattle.tb_host.specs.declared.misfit.Table.TheVariants.{Moves}
use Rattle.tb_host.proofs.misfit.look_at_moves.Goals as goal

pub loop-at-init : goal.loop-at-init
loop-at-init c = none_yet (λ _. IsMoveRow) c.args.rows.now

pub loop-at-preserved : goal.loop-at-preserved
loop-at-preserved c = one_more_right (λ _. IsMoveRow) c.args.rows.now c.loop-at.at c.index-rows-at.result (omega (arith, c.loop-at-test.true)) c.index-rows-at.is c.in_ok-look_at_move.ensures.right c.loop-at.invariant

pub returns-in_err-look_at_move-clause-wrong : goal.returns-in_err-look_at_move-clause-wrong
returns-in_err-look_at_move-clause-wrong c =
    let p = err_from_is_err_and c.from_residual.result c.from_residual.ensures.1 in
    stopped_by (IsRowOff Moves (λ _. IsMoveRow) c.args.rows.now) c.from_residual.result p.0 c.in_err-look_at_move.field-0.0 p.1 p.2
    (off_by (λ _. IsMoveRow) c.args.rows.now Moves c.loop-at.at c.index-rows-at.result (omega (arith, c.loop-at-test.true)) c.index-rows-at.is c.loop-at.invariant c.in_err-look_at_move.field-0.0 c.in_err-look_at_move.ensures.wrong)

pub returns-clause-right : goal.returns-clause-right
returns-clause-right c = all_right (λ _. IsMoveRow) c.args.rows.now c.loop-at.at (omega (arith, c.loop-at-test.false)) c.loop-at.invariant
