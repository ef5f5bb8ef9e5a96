use Rattle.tb_report.proofs.OneTable.{moved_keys}
use Rattle.tb_report.proofs.laws.order_of_keys_is_nothing.Goals as goal

pub returns : goal.returns
returns c = moved_keys
