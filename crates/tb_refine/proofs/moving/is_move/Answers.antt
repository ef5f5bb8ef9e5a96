use Rattle.tb_refine.proofs.Numbering.{row_moves}
use Rattle.tb_refine.proofs.moving.is_move.Goals as goal

pub returns-in-Ok-clause-yes : goal.returns-in-Ok-clause-yes
returns-in-Ok-clause-yes c _ none = row_moves c.args.row.now _ _ _ c.in-Ok.ensures.steps none
