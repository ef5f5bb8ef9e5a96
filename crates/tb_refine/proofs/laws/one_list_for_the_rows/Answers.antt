use Rattle.tb_refine.proofs.Alone.{same_records}
use Rattle.tb_refine.proofs.laws.one_list_for_the_rows.Goals as goal

pub returns : goal.returns
returns c = same_records
