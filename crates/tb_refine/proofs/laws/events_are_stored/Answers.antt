use Rattle.std.proofs.Common.{subst}
use Rattle.tb_tables.specs.Records.{AreStored}
use Rattle.tb_refine.proofs.Next.{event_next}
use Rattle.tb_refine.proofs.laws.events_are_stored.Goals as goal

pub returns : goal.returns
returns c = λ s place event user r k b e from g trees h. subst (λ z. AreStored z trees) (event_next s place event user r k b e from g) h
