use Rattle.tb_core.proofs.Keeps.{well}
use Rattle.tb_replay.proofs.laws.reached_states_are_fine.Goals as goal

pub returns : goal.returns
returns c = λ f r. record { named = (well f r).named; names = (well f r).names; ids = (well f r).ids; sentences = (well f r).fine }
