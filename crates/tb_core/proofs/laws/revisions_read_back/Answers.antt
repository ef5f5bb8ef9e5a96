use Rattle.tb_core.proofs.ReadsBack.{all_read_back}
use Rattle.tb_core.proofs.laws.revisions_read_back.Goals as goal

pub returns : goal.returns
returns c = all_read_back c.one_list_has_a_text.ensures
