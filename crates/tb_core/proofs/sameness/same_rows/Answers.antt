use Rattle.std.proofs.Common.{◌<◌, length, arith}
use Rattle.tb_core.proofs.Alike.{same_more}
use Rattle.tb_core.proofs.sameness.same_rows.Goals as goal

pub loop-i-preserved : goal.loop-i-preserved
loop-i-preserved g c =
    let m : c.loop-i.i < length c.args.other.now = omega (arith, c.loop-i-test.true, c.if-one-other.false) in
    same_more c.args.one.now c.args.other.now c.loop-i.i c.index-one-i.result c.index-other-i.result c.loop-i-test.true m c.index-one-i.is c.index-other-i.is c.loop-i.invariant (c.same_row.ensures.0 c.if-not-same_row.false)
