use Rattle.tb_verify.proofs.Seen.{fine_by_rows, rows_by_fine}
use Rattle.tb_verify.proofs.laws.rows_tell_names_apart.Goals as goal

pub returns-clause-fine : goal.returns-clause-fine
returns-clause-fine c = fine_by_rows

pub returns-clause-unfit : goal.returns-clause-unfit
returns-clause-unfit c = rows_by_fine
