use Rattle.std.proofs.Common.{◌+◌, arith}
use Rattle.tb_http.proofs.Numbers.{one_more, beyond}
use Rattle.tb_http.proofs.headers.number_within.Goals as goal

pub returns-then-number-limit : goal.returns-then-number-limit
returns-then-number-limit c =
    let more = one_more c.args.digits.now c.loop-digit.digit-index c.loop-digit-test.true c.requires.digits in
    beyond c.args.digits.now (c.loop-digit.digit-index + 1) c.args.limit (omega (arith, more.1, c.loop-digit.invariant.1, c.if-number-limit.true))

pub loop-digit-preserved : goal.loop-digit-preserved
loop-digit-preserved c =
    let more = one_more c.args.digits.now c.loop-digit.digit-index c.loop-digit-test.true c.requires.digits in
    (c.if-number-limit.false, omega (arith, more.1, c.loop-digit.invariant.1))
