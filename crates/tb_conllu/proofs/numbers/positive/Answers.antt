use Rattle.tb_conllu.proofs.IdTexts.{positive_is, zero_isnt}
use Rattle.std.proofs.Common.{arith}
use Rattle.tb_conllu.proofs.numbers.positive.Goals as goal

pub returns-then-n-eq0 : goal.returns-then-n-eq0
returns-then-n-eq0 c = zero_isnt _ _ c.in_ok-n.ensures.1 c.if-n-eq0.true

pub returns : goal.returns
returns c = (positive_is _ _ c.in_ok-n.ensures.1 c.in_ok-n.ensures.2 (omega arith), c.in_ok-n.ensures.1, omega arith, c.in_ok-n.ensures.2)
