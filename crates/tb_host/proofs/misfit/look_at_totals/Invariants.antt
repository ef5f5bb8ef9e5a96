use Rattle.tb_host.specs.Looked.{HasSums}
use Rattle.tb_host.specs.Misfits.{AreRight}
use Rattle.tb_host.proofs.misfit.look_at_totals.Given as goal

abbrev pub invariant-loop-at : goal.invariant-loop-at
invariant-loop-at l = AreRight (HasSums l.totals) l.rows l.at
