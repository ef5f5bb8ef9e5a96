use Rattle.std.proofs.Common.{length}
use Rattle.tb_conllu.specs.Left.{IsReadTo}
use Rattle.tb_conllu.proofs.whole.read_ref.Given as goal

abbrev pub invariant-loop-all : goal.invariant-loop-all
invariant-loop-all l = IsReadTo l.bytes l.all.items l.left

abbrev pub decreases-loop-all : goal.decreases-loop-all
decreases-loop-all l = length l.left.rest
