use Rattle.tb_syntax.proofs.Readings.{searchable}
use Rattle.tb_syntax.proofs.law.what_is_said_can_be_searched.Goals as goal

pub returns : goal.returns
returns c = searchable
