use Rattle.std.proofs.Common.{◌≤◌, ◌+◌, ◌-◌, ◌^◌, min, vec_len}
use Rattle.tb_desk.proofs.Asked.{IsAskedSince}
use Rattle.tb_desk.proofs.Pausing.{Evenly}
use Rattle.tb_desk.proofs.waiting.Waiting.next.Given as goal

abbrev pub invariant-loop : goal.invariant-loop
invariant-loop g l = (min (l.fn.self.looks + l.counter) (2 ^ 64 - 1) ≤ l.self.looks)
    × IsAskedSince (vec_len l.fn.self.callers) l.fn.self.accepts.count (vec_len l.self.callers) l.self.accepts.count
    × Evenly (g.S.Sockets.calls l.fn.sockets) (g.S.Sockets.calls l.sockets)
