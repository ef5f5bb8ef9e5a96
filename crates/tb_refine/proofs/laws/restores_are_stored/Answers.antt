use Rattle.std.proofs.Common.{subst}
use Rattle.tb_tables.specs.Records.{AreStored}
use Rattle.tb_refine.proofs.Next.{restore_next}
use Rattle.tb_refine.proofs.laws.restores_are_stored.Goals as goal

pub returns : goal.returns
returns c = λ s place user r k x e b f st g trees h. subst (λ z. AreStored z trees) (restore_next s place user r k x e b f st g) h
