use Rattle.tb_refine.proofs.Numbering.{row_moves}
use Rattle.tb_refine.proofs.moving.read_move.Goals as goal

pub returns-in_err-who-clause-wrong : goal.returns-in_err-who-clause-wrong
returns-in_err-who-clause-wrong c none = absurd (row_moves c.args.row.now c.in_ok-kind.kind c.in_ok-kind.from c.in_ok-kind.to c.in_ok-kind.ensures.steps none)

pub returns-clause-wrong : goal.returns-clause-wrong
returns-clause-wrong c none = absurd (row_moves c.args.row.now c.in_ok-kind.kind c.in_ok-kind.from c.in_ok-kind.to c.in_ok-kind.ensures.steps none)
