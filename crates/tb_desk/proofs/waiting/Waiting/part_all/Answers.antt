use Rattle.std.proofs.Common.{◌∙◌, arith}
use Rattle.tb_desk.proofs.Making.{clock_made, made_more}
use Rattle.tb_desk.proofs.waiting.Waiting.part_all.Goals as goal

pub loop-preserved : goal.loop-preserved
loop-preserved g c =
    let calls = g.S.Sockets.calls in (
      c.await_ends.ensures.callers ∙ c.loop.invariant.0,
      omega (arith, c.loop.invariant.1, c.in-Ok-true.ensures.looks),
      made_more _ _ _ c.loop.invariant.2 (clock_made (calls c.loop.sockets) (calls c.await_ends.new.sockets) c.await_ends.new.self.looked _ c.in-Ok-true.ensures.called),
    )
