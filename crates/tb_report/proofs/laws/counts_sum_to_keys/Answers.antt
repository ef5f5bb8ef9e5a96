use Rattle.tb_report.proofs.OneTable.{table_total}
use Rattle.tb_report.proofs.laws.counts_sum_to_keys.Goals as goal

pub returns : goal.returns
returns c = table_total
