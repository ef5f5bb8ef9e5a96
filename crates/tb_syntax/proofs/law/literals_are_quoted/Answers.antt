use Rattle.tb_syntax.proofs.Literals.{literal_quoted}
use Rattle.tb_syntax.proofs.law.literals_are_quoted.Goals as goal

pub returns : goal.returns
returns c = literal_quoted
