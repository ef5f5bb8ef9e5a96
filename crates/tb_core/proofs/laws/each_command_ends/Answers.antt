use Rattle.tb_core.proofs.Always.{steps_some}
use Rattle.tb_core.proofs.laws.each_command_ends.Goals as goal

pub returns : goal.returns
returns c = steps_some
