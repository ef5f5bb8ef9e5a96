use Rattle.tb_conllu.proofs.Reported.{alive}
use Rattle.tb_conllu.proofs.laws.read_lines_are_alive.Goals as goal

pub returns : goal.returns
returns c = alive
