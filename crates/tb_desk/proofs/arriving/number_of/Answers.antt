use Rattle.std.proofs.Common.{arith}
use Rattle.tb_desk.proofs.Awaiting.{more_digits}
use Rattle.tb_desk.proofs.arriving.number_of.Goals as goal

pub loop-digit-preserved : goal.loop-digit-preserved
loop-digit-preserved c numeral small =
    let more = more_digits c.args.digits.now c.loop-digit.digit-index c.loop-digit-test.true numeral small in
    omega (arith, more.0, more.1, more.2, c.loop-digit.invariant numeral small, c.saturating_sub-value.ensures, c.saturating_mul.ensures, c.saturating_add-number.ensures)
