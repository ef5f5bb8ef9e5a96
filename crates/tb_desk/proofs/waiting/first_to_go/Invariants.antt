use Rattle.std.proofs.Common.{◌≢◌}
use Rattle.std.specs.List.{AllWithin}
use Rattle.tb_desk.specs.declared.arriving.Awaited.TheVariants.{Head}
use Rattle.tb_desk.proofs.waiting.first_to_go.Given as goal

abbrev pub invariant-loop-at : goal.invariant-loop-at
invariant-loop-at l = AllWithin (λ c. c.awaited ≢ Head) l.callers 0 l.at
