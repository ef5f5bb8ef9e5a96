use Rattle.std.proofs.Common.{ap, refl}
use Rattle.tb_tables.specs.Records.{Move}
use Rattle.tb_refine.proofs.moving.steps_in.Goals as goal

pub returns-in_default-clause-known : goal.returns-in_default-clause-known
returns-in_default-clause-known c = (refl, λ m same. c.in_default.not-Some m.kind ((c.kind_numbered.ensures m.kind).1 (ap (λ (x : Move). x.kind) same)))
