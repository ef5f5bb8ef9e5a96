use Rattle.tb_prefilter.proofs.Items.{item_required}
use Rattle.tb_prefilter.proofs.laws.a_feature_is_in_its_row.Goals as goal

pub returns : goal.returns
returns c = item_required
