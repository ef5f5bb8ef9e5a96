use Rattle.std.proofs.Common.{◌∙◌, ap}
use Rattle.std.specs.Str.{trim_end}
use Rattle.tb_words.proofs.Parts.{back_got, front_got}
use Rattle.tb_words.proofs.syntax.Wrong.new.Goals as goal

pub returns-clause-before : goal.returns-clause-before
returns-clause-before c =
    λ at. c.trim_end.ensures.trim ∙ ap trim_end (rw c.unwrap_or.ensures (front_got c.args.text.now c.args.at c.get.result _ c.utf8.text at
    c.get.ensures.cases))

pub returns-clause-rest : goal.returns-clause-rest
returns-clause-rest c =
    λ at. rw c.unwrap_or-2.ensures (back_got c.args.text.now c.args.at c.get-2.result _ at c.get-2.ensures.cases)
