use Rattle.tb_core.proofs.Balance.{six}
use Rattle.tb_core.proofs.laws.each_sentence_is_in_one_state.Goals as goal

pub returns : goal.returns
returns c = six
