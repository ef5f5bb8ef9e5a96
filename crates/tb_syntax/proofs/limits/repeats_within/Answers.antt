use Rattle.std.proofs.Common.{sym, None, Some}
use Rattle.tb_syntax.proofs.Repeating.{goes_on, answer, at_end}
use Rattle.tb_syntax.proofs.limits.repeats_within.Goals as goal

pub loop-i-preserved : goal.loop-i-preserved
loop-i-preserved c = goes_on c.args.lexemes.now c.args.most c.loop-i.i c.loop-i.bounds _ _ c.loop-i-test.true c.loop-i.invariant (sym c.in-Some.ensures)

pub returns-in_default : goal.returns-in_default
returns-in_default c =
    answer c.args.lexemes.now c.args.most None
    (goes_on c.args.lexemes.now c.args.most c.loop-i.i c.loop-i.bounds _ _ c.loop-i-test.true c.loop-i.invariant (sym c.in_default.ensures))

pub returns : goal.returns
returns c =
    answer c.args.lexemes.now c.args.most (Some c.loop-i.bounds)
    (at_end c.args.lexemes.now c.args.most c.loop-i.i c.loop-i.bounds c.loop-i-test.false c.loop-i.invariant)
