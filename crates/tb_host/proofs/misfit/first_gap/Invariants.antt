use Rattle.tb_host.specs.Misfits.{AreRight, HasNumber}
use Rattle.tb_host.proofs.misfit.first_gap.Given as goal

abbrev pub invariant-loop-at : goal.invariant-loop-at
invariant-loop-at l = AreRight HasNumber l.rows l.at
