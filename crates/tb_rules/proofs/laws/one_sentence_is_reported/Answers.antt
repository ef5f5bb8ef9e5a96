use Rattle.tb_rules.proofs.Valid.{one_fault}
use Rattle.tb_rules.proofs.laws.one_sentence_is_reported.Goals as goal

pub returns : goal.returns
returns c = one_fault
