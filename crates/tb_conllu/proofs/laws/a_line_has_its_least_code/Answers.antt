use Rattle.tb_conllu.proofs.Nine.{least_of_nine, none_of_nine}
use Rattle.tb_conllu.proofs.laws.a_line_has_its_least_code.Goals as goal

pub returns-clause-none : goal.returns-clause-none
returns-clause-none c = none_of_nine

pub returns-clause-least : goal.returns-clause-least
returns-clause-least c = least_of_nine
