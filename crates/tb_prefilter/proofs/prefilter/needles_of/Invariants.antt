use Rattle.tb_prefilter.specs.Needed.{AreNeeded}
use Rattle.tb_prefilter.proofs.prefilter.needles_of.Given as goal

abbrev pub invariant-loop-number : goal.invariant-loop-number
invariant-loop-number l = AreNeeded l.query l.needles.items
