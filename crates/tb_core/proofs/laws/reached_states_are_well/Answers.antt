use Rattle.tb_core.proofs.Keeps.{well}
use Rattle.tb_core.proofs.laws.reached_states_are_well.Goals as goal

pub returns : goal.returns
returns c = well
