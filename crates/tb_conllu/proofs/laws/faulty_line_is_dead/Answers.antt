use Rattle.tb_conllu.proofs.Reported.{dead}
use Rattle.tb_conllu.proofs.laws.faulty_line_is_dead.Goals as goal

pub returns : goal.returns
returns c = dead
