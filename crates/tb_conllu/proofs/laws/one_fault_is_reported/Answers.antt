use Rattle.tb_conllu.proofs.Faults.{one_reported}
use Rattle.tb_conllu.proofs.laws.one_fault_is_reported.Goals as goal

pub returns : goal.returns
returns c = one_reported
