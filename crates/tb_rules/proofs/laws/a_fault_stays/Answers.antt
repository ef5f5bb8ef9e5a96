use Rattle.tb_rules.proofs.Valid.{fault_stays}
use Rattle.tb_rules.proofs.laws.a_fault_stays.Goals as goal

pub returns : goal.returns
returns c = fault_stays
