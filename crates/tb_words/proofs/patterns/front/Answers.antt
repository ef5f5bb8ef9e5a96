use Rattle.tb_words.proofs.Parts.{front_got}
use Rattle.tb_words.proofs.patterns.front.Goals as goal

pub returns : goal.returns
returns c = λ at. rw c.unwrap_or.ensures (front_got c.args.text.now c.args.at c.get.result _ c.utf8.text at c.get.ensures.cases)
