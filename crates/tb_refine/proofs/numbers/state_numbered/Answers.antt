use Rattle.std.proofs.Common.{◌≡◌, ap, Option, Some, None}
use Rattle.tb_core.specs.declared.kinds.State.{State}
use Rattle.tb_refine.proofs.numbers.state_numbered.Goals as goal

pub returns-in-Some : goal.returns-in-Some
returns-in-Some c st = (
  λ is. (c.in-Some.ensures (Some st)).0 (ap (λ (before : Option State). Some before) is),
  λ at. let e = (c.in-Some.ensures (Some st)).1 at in cc,
)

pub returns-in-None : goal.returns-in-None
returns-in-None c st = (
  λ bad. absurd (let e = bad in cc),
  λ at. absurd (let e = (c.in-None.ensures (Some st)).1 at in cc),
)
