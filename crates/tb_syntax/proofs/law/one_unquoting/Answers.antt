use Rattle.tb_syntax.proofs.Sayings.{one_quoted}
use Rattle.tb_syntax.proofs.law.one_unquoting.Goals as goal

pub returns : goal.returns
returns c = one_quoted
