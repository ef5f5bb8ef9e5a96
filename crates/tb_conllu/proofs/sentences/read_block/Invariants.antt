use Rattle.std.proofs.Common.{length}
use Rattle.tb_conllu.specs.Tested.{HoldsOf}
use Rattle.tb_conllu.proofs.Reading.{IsRead}
use Rattle.tb_conllu.proofs.sentences.read_block.Given as goal

abbrev pub invariant-loop-raw : goal.invariant-loop-raw
invariant-loop-raw l = record { read : IsRead l.bytes l.line l.block l.rest l.at; tested : HoldsOf l.tested l.rest }

abbrev pub decreases-loop-raw : goal.decreases-loop-raw
decreases-loop-raw l = length l.rest
