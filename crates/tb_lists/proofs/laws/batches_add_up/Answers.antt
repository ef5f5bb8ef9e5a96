use Rattle.tb_lists.proofs.Sums.{they_add_up}
use Rattle.tb_lists.proofs.laws.batches_add_up.Goals as goal

pub returns : goal.returns
returns c s st reached = they_add_up s st (c.reached_states_are_well.ensures s reached).placed
