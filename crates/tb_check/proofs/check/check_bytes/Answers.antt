use Rattle.std.proofs.Common.{rules}
use Rattle.tb_check.proofs.Read.{sure_answer}
use Rattle.tb_check.proofs.check.check_bytes.Goals as goal

pub returns : goal.returns
returns g c = search (rules, sure_answer)
