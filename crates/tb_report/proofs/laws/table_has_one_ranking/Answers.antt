use Rattle.tb_report.proofs.OneRanking.{one_ranking}
use Rattle.tb_report.proofs.laws.table_has_one_ranking.Goals as goal

pub returns : goal.returns
returns c = one_ranking
