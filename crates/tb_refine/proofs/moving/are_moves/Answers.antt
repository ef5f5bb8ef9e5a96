use Rattle.std.proofs.Common.{[], refl, arith, rules}
use Rattle.tb_refine.proofs.Numbering.{row_known, moves_more, moves_all}
use Rattle.tb_refine.proofs.moving.are_moves.Goals as goal

pub loop-row-init : goal.loop-row-init
loop-row-init c none = none [] refl

pub loop-row-preserved : goal.loop-row-preserved
loop-row-preserved c = moves_more c.args.rows.now c.loop-row.row-index c.row-item.result (omega (arith, c.loop-row-test.true)) (search rules) c.loop-row.invariant (c.if-not-is_move.ensures.yes refl)

pub returns-then-not-is_move-clause-no : goal.returns-then-not-is_move-clause-no
returns-then-not-is_move-clause-no c _ ms same =
    let it = row_known c.args.rows.now ms c.loop-row.row-index c.row-item.result (omega (arith, c.loop-row-test.true)) (search rules) same in
    c.if-not-is_move.ensures.no refl it.0 it.1

pub returns-clause-yes : goal.returns-clause-yes
returns-clause-yes c _ = moves_all c.args.rows.now c.loop-row.row-index c.loop-row-test.false c.loop-row.invariant
