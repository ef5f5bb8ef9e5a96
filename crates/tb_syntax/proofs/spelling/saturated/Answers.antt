use Rattle.std.proofs.Common.{sym, ◌∙◌, arith}
use Rattle.tb_syntax.proofs.Decimals.{one_digit, at_end}
use Rattle.tb_syntax.proofs.spelling.saturated.Goals as goal

pub loop-digit-preserved : goal.loop-digit-preserved
loop-digit-preserved c = record {
  same =
      one_digit c.args.digits.now c.loop-digit.digit-index c.loop-digit.value c.saturating_add-value.result 0 c.loop-digit-test.true (omega arith)
      ∙ c.loop-digit.invariant.same;
  small = omega arith;
}

pub returns : goal.returns
returns c =
    sym (at_end c.args.digits.now c.loop-digit.digit-index c.loop-digit.value c.loop-digit-test.false c.loop-digit.invariant.small) ∙ c.loop-digit.invariant.same
