use Rattle.tb_refine.proofs.Fits.{fitting}
use Rattle.tb_refine.proofs.laws.desk_rows_fit.Goals as goal

pub returns : goal.returns
returns c = fitting
