use Rattle.tb_rules.proofs.Valid.{fault_not_valid}
use Rattle.tb_rules.proofs.laws.faulty_sentences_are_not_valid.Goals as goal

pub returns : goal.returns
returns c = fault_not_valid
