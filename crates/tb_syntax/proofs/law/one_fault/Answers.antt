use Rattle.tb_syntax.proofs.OneFault as laws
use Rattle.tb_syntax.proofs.law.one_fault.Goals as goal

pub returns : goal.returns
returns c = laws.one_fault
