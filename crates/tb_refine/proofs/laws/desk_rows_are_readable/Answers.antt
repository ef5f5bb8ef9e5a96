use Rattle.tb_refine.proofs.Fits.{readable}
use Rattle.tb_refine.proofs.laws.desk_rows_are_readable.Goals as goal

pub returns : goal.returns
returns c = readable
