use Rattle.std.proofs.Common.{◌≡◌, ◌≤◌, ◌+◌, ◌-◌, ◌^◌, min}
use Rattle.tb_desk.proofs.Making.{Made}
use Rattle.tb_desk.proofs.waiting.Waiting.part_all.Given as goal

abbrev pub invariant-loop : goal.invariant-loop
invariant-loop g l = (l.self.callers ≡ l.fn.self.callers) × (min (l.fn.self.looks + l.counter) (2 ^ 64 - 1) ≤ l.self.looks)
    × Made (g.S.Sockets.calls l.fn.sockets) (g.S.Sockets.calls l.sockets)
