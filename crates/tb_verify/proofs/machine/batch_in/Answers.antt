use Rattle.std.proofs.Common.{ap, refl, sym}
use Rattle.tb_tables.specs.Records.{Batch}
use Rattle.tb_verify.proofs.machine.batch_in.Goals as goal

pub returns-in_default-clause-none : goal.returns-in_default-clause-none
returns-in_default-clause-none c = (refl, λ b same. c.in_default.not-Some b.state ((c.state_numbered.ensures b.state).1 (sym (ap (λ (x : Batch). x.state) same))))
