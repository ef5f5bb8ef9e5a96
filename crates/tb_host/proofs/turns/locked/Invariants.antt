use Rattle.std.proofs.Common.{◌≡◌}
use Rattle.tb_host.proofs.Awaited.{Tried}
use Rattle.tb_host.proofs.turns.locked.Given as goal

abbrev pub invariant-loop : goal.invariant-loop
invariant-loop g l = (g.A.Awaited.since l.awaited ≡ g.A.Awaited.since l.fn.awaited) × Tried (g.A.Awaited.calls l.fn.awaited) (g.A.Awaited.calls l.awaited) l.counter
