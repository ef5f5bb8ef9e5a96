use Rattle.std.proofs.Common.{◌<◌, length, ◌∙◌, arith}
use Rattle.tb_search.proofs.Choosing.{mapped_more}
use Rattle.tb_search.proofs.picks.picks_of.Goals as goal

pub loop-one-preserved : goal.loop-one-preserved
loop-one-preserved c =
    let low : c.loop-one.one-index < length c.args.work.now = omega (arith, c.loop-one-test.true) in
    c.in_ok-push.ensures.items ∙ mapped_more c.args.work.now c.loop-one.found.items c.loop-one.one-index (record { number = 0; rev = 0; words = 0 }) low c.loop-one.invariant
