use Rattle.tb_core.proofs.Stored.{takes_next}
use Rattle.tb_core.proofs.laws.stored_totals_take_moves.Goals as goal

pub returns : goal.returns
returns c = takes_next
