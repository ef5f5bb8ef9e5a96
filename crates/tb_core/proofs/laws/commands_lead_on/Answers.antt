use Rattle.tb_core.proofs.Leading.{steps_lead}
use Rattle.tb_core.proofs.laws.commands_lead_on.Goals as goal

pub returns : goal.returns
returns c = λ l s t k a. steps_lead l s k a t
