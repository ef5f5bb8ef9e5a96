use Rattle.tb_report.proofs.Counting.{table_of_more}
use Rattle.tb_report.proofs.freq.Freq.add.Goals as goal

pub returns-clause-keys : goal.returns-clause-keys
returns-clause-keys c = λ keys was. table_of_more _ _ _ keys (rw c.self.view_is at c.in_ok-count_once.ensures.counted) was
