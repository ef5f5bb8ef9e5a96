use Rattle.std.proofs.Common.{map}
use Rattle.tb_words.specs.PairFaults.{AreRight}
use Rattle.tb_words.proofs.pairs.fault_with.Given as goal

abbrev pub invariant-loop-pair : goal.invariant-loop-pair
invariant-loop-pair l = AreRight l.nodes (0, 0) (map (λ x. x.now) l.yielded) l.before
