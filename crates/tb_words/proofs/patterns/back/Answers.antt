use Rattle.tb_words.proofs.Parts.{back_got}
use Rattle.tb_words.proofs.patterns.back.Goals as goal

pub returns : goal.returns
returns c = λ at. rw c.unwrap_or.ensures (back_got c.args.text.now c.args.at c.get.result _ at c.get.ensures.cases)
