use Rattle.std.proofs.Common.{arith}
use Rattle.tb_conllu.specs.Lines.{is_positive, is_number}
use Rattle.tb_conllu.proofs.IdTexts.{one_part, first_fails, second_fails, both_pass, number_lacks, spelled}
use Rattle.tb_conllu.proofs.ids.node.Goals as goal

pub returns-in_err-before : goal.returns-in_err-before
returns-in_err-before c = rw c.from_residual.ensures (one_part is_number is_positive 46 c.args.text.now c.in_err-before.ensures)

pub returns-in_err-word : goal.returns-in_err-word
returns-in_err-word c = rw c.from_residual-in_err-word.ensures (first_fails is_number is_positive 46 c.args.text.now c.in_ok-before.before.now c.in_ok-before.after.now c.in_ok-before.ensures.0 c.in_ok-before.ensures.1 c.in_err-word.ensures)

pub returns-in_err-place : goal.returns-in_err-place
returns-in_err-place c = rw c.from_residual-in_err-place.ensures (second_fails is_number is_positive 46 c.args.text.now c.in_ok-before.before.now c.in_ok-before.after.now c.in_ok-before.ensures.0 c.in_ok-before.ensures.1 c.in_err-place.ensures)

pub returns : goal.returns
returns c =
    let a = c.in_ok-word.ensures in
    let b = c.in_ok-place.ensures in
    (both_pass is_number is_positive 46 c.args.text.now c.in_ok-before.before.now c.in_ok-before.after.now c.in_ok-before.ensures.0 c.in_ok-before.ensures.1 a.0 b.0 (number_lacks 46 c.in_ok-before.after.now (omega arith) b.0), spelled 46 c.in_ok-word.word c.in_ok-place.place c.args.text.now c.in_ok-before.before.now c.in_ok-before.after.now c.in_ok-before.ensures.1 a.1 b.1, a.2, (b.2, b.3))
