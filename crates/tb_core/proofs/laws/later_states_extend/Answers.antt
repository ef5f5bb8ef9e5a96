use Rattle.tb_core.proofs.Extending.{later_extends}
use Rattle.tb_core.proofs.laws.later_states_extend.Goals as goal

pub returns : goal.returns
returns c = later_extends
