use Rattle.tb_conllu.proofs.OneList.{one_list}
use Rattle.tb_conllu.proofs.laws.one_list_has_a_text.Goals as goal

pub returns : goal.returns
returns c = one_list
