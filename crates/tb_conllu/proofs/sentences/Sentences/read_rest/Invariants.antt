use Rattle.std.proofs.Common.{List, length}
use Rattle.tb_conllu.specs.Left.{IsReadFrom}
use Rattle.tb_conllu.specs.Text.{BlockText}
use Rattle.tb_conllu.proofs.sentences.Sentences.read_rest.Given as goal

abbrev pub invariant-loop-block : goal.invariant-loop-block
invariant-loop-block l = (bs : List BlockText) × IsReadFrom l.initial.self bs l.self

abbrev pub decreases-loop-block : goal.decreases-loop-block
decreases-loop-block l = length l.self.rest
