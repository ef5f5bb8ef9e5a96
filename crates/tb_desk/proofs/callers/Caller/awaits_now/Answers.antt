use Rattle.std.proofs.Common.{subst}
use Rattle.tb_desk.specs.Arriving.{IsAwaited}
use Rattle.tb_desk.proofs.callers.Caller.awaits_now.Goals as goal

pub returns-in-Head-clause-head : goal.returns-in-Head-clause-head
returns-in-Head-clause-head c head = subst (λ said. IsAwaited said c.awaited_after.result) c.said.ensures c.awaited_after.ensures
