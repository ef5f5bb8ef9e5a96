use Rattle.tb_report.proofs.OneTable.{one_table}
use Rattle.tb_report.proofs.laws.keys_have_one_table.Goals as goal

pub returns : goal.returns
returns c = one_table
