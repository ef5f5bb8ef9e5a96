use Rattle.tb_core.proofs.Stored.{stand_next}
use Rattle.tb_core.proofs.laws.stored_totals_hold.Goals as goal

pub returns : goal.returns
returns c = stand_next
