use Rattle.tb_host.specs.Looked.{IsMoveRow}
use Rattle.tb_host.specs.Misfits.{AreRight}
use Rattle.tb_host.proofs.misfit.look_at_moves.Given as goal

abbrev pub invariant-loop-at : goal.invariant-loop-at
invariant-loop-at l = AreRight (λ _. IsMoveRow) l.rows l.at
