use Rattle.tb_core.proofs.Balance.{net}
use Rattle.tb_core.proofs.laws.totals_are_nets.Goals as goal

pub returns : goal.returns
returns c = net
