use Rattle.std.proofs.Common.{arith}
use Rattle.tb_match.proofs.Words.{united_list}
use Rattle.tb_match.proofs.uniting.unite.Goals as goal

pub returns-clause-words : goal.returns-clause-words
returns-clause-words c = united_list c.args.to.now c.args.from.now c.loop-k.to c.requires.same (omega arith) (λ k h. c.loop-k.invariant.done k (omega arith))
