use Rattle.std.proofs.Common.{◌≡◌, rules, subst}
use Rattle.tb_conllu.specs.Marks.{AreMarks}
use Rattle.tb_conllu.proofs.MarkedBytes.{moved}
use Rattle.tb_conllu.proofs.scanner.marks_left.Goals as goal

pub returns-clause-known : goal.returns-clause-known
returns-clause-known c start known =
    let none : c.args.marks ≡ 0 = search rules in
    moved c.args.bytes.now start c.args.base c.next_marks.result.0 c.next_marks.result.1 (subst (λ m. AreMarks c.args.bytes.now start c.args.base m) none known) c.next_marks.ensures.known
