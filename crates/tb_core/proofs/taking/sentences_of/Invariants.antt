use Rattle.std.proofs.Common.{◌≡◌, List, length, map}
use Rattle.tb_conllu.specs.Left.{IsReadTo}
use Rattle.tb_conllu.specs.Text.{BlockText}
use Rattle.tb_rules.specs.File.{HasTaken}
use Rattle.tb_core.specs.Taking.{taken_of}
use Rattle.tb_core.proofs.taking.sentences_of.Given as goal

abbrev pub invariant-loop-all : goal.invariant-loop-all
invariant-loop-all l = (bs : List BlockText) × IsReadTo l.body bs l.unread × HasTaken l.checker bs × (l.all.items ≡ map taken_of bs)

abbrev pub decreases-loop-all : goal.decreases-loop-all
decreases-loop-all l = length l.unread.rest
