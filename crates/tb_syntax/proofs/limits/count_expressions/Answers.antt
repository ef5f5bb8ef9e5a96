use Rattle.std.proofs.Common.{arith}
use Rattle.tb_syntax.proofs.Counting.{answer, at_end}
use Rattle.tb_syntax.proofs.limits.count_expressions.Goals as goal

pub returns-clause-count : goal.returns-clause-count
returns-clause-count c =
    let left = at_end c.args.lexemes.now c.loop-i.i c.loop-i.inside c.loop-i-test.false in
    let all = c.loop-i.invariant.counted in
    answer c.args.lexemes.now c.loop-i.count (omega arith)
