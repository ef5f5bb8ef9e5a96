use Rattle.std.proofs.Common.{sym, arith, None, Some}
use Rattle.tb_syntax.proofs.Nesting.{goes_on, answer, at_end}
use Rattle.tb_syntax.proofs.limits.nests_within.Goals as goal

pub loop-i-preserved : goal.loop-i-preserved
loop-i-preserved c = record {
  goes = goes_on c.args.lexemes.now c.args.most c.loop-i.i c.loop-i.room _ _ c.loop-i-test.true c.loop-i.invariant.goes (sym c.in-Some.ensures.value);
  bound = omega (arith, c.in-Some.ensures.bound);
}

pub returns-in_default : goal.returns-in_default
returns-in_default c =
    answer c.args.lexemes.now c.args.most None
    (goes_on c.args.lexemes.now c.args.most c.loop-i.i c.loop-i.room _ _ c.loop-i-test.true c.loop-i.invariant.goes (sym c.in_default.ensures.value))

pub returns : goal.returns
returns c =
    answer c.args.lexemes.now c.args.most (Some c.loop-i.room)
    (at_end c.args.lexemes.now c.args.most c.loop-i.i c.loop-i.room c.loop-i-test.false c.loop-i.invariant.goes)
