use Rattle.std.proofs.Common.{◌≡◌, ◌+◌, rules, subst}
use Rattle.tb_conllu.specs.Marks.{AreMarks}
use Rattle.tb_conllu.proofs.MarkedBytes.{moved}
use Rattle.tb_conllu.proofs.scanner.next_marks.Goals as goal

pub returns-then-marks-ne0-clause-known : goal.returns-then-marks-ne0-clause-known
returns-then-marks-ne0-clause-known c = moved c.args.bytes.now (c.args.base + 64) c.loop-at.at (c.loop-at.at + 64) c.marks_at-marks.result c.loop-at.invariant c.marks_at-marks.ensures

pub loop-at-preserved : goal.loop-at-preserved
loop-at-preserved c =
    let none : c.marks_at-marks.result ≡ 0 = search rules in
    subst (λ m. AreMarks c.args.bytes.now (c.args.base + 64) (c.loop-at.at + 64) m) none (moved c.args.bytes.now (c.args.base + 64) c.loop-at.at (c.loop-at.at + 64) c.marks_at-marks.result c.loop-at.invariant c.marks_at-marks.ensures)
