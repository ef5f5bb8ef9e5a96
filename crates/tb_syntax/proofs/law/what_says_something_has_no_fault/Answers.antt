use Rattle.tb_syntax.proofs.OneFault.{no_fault}
use Rattle.tb_syntax.proofs.law.what_says_something_has_no_fault.Goals as goal

pub returns : goal.returns
returns c = no_fault
