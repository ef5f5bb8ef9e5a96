use Rattle.tb_words.proofs.Parts.{part_got}
use Rattle.tb_words.proofs.literals.written.Goals as goal

pub returns : goal.returns
returns c = λ start end within.
    rw c.unwrap_or.ensures (part_got c.args.text.now c.args.literal.start c.args.literal.end c.get.result _ within start end c.get.ensures.cases)
