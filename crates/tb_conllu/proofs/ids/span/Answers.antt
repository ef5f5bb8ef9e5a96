use Rattle.std.proofs.Common.{arith}
use Rattle.tb_conllu.specs.Lines.{is_positive}
use Rattle.tb_conllu.proofs.IdTexts.{one_part, first_fails, second_fails, both_pass, number_lacks, spelled}
use Rattle.tb_conllu.proofs.ids.span.Goals as goal

pub returns-in_err-before : goal.returns-in_err-before
returns-in_err-before c = rw c.from_residual.ensures (one_part is_positive is_positive 45 c.args.text.now c.in_err-before.ensures)

pub returns-in_err-first : goal.returns-in_err-first
returns-in_err-first c = rw c.from_residual-in_err-first.ensures (first_fails is_positive is_positive 45 c.args.text.now c.in_ok-before.before.now c.in_ok-before.after.now c.in_ok-before.ensures.0 c.in_ok-before.ensures.1 c.in_err-first.ensures)

pub returns-in_err-last : goal.returns-in_err-last
returns-in_err-last c = rw c.from_residual-in_err-last.ensures (second_fails is_positive is_positive 45 c.args.text.now c.in_ok-before.before.now c.in_ok-before.after.now c.in_ok-before.ensures.0 c.in_ok-before.ensures.1 c.in_err-last.ensures)

pub returns : goal.returns
returns c =
    let a = c.in_ok-first.ensures in
    let b = c.in_ok-last.ensures in
    (both_pass is_positive is_positive 45 c.args.text.now c.in_ok-before.before.now c.in_ok-before.after.now c.in_ok-before.ensures.0 c.in_ok-before.ensures.1 a.0 b.0 (number_lacks 45 c.in_ok-before.after.now (omega arith) b.0), spelled 45 c.in_ok-first.first c.in_ok-last.last c.args.text.now c.in_ok-before.before.now c.in_ok-before.after.now c.in_ok-before.ensures.1 a.1 b.1, (a.2, a.3), (b.2, b.3))
