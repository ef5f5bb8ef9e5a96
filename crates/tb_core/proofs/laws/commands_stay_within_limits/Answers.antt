use Rattle.tb_core.proofs.Leading.{steps_stay_reachable}
use Rattle.tb_core.proofs.laws.commands_stay_within_limits.Goals as goal

pub returns : goal.returns
returns c = λ l s t k a. steps_stay_reachable l s k a t
