use Rattle.tb_report.proofs.OneTable.{added_tables}
use Rattle.tb_report.proofs.laws.tables_add_up.Goals as goal

pub returns : goal.returns
returns c = added_tables
