use Rattle.tb_conllu.proofs.OneList.{begins_one_way}
use Rattle.tb_conllu.proofs.laws.a_file_begins_one_way.Goals as goal

pub returns : goal.returns
returns c = begins_one_way
