use Rattle.tb_prefilter.proofs.Fields.{column_required}
use Rattle.tb_prefilter.proofs.laws.a_value_is_between_tabs.Goals as goal

pub returns : goal.returns
returns c = column_required
