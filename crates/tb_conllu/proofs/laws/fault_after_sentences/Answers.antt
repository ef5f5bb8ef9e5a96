use Rattle.tb_conllu.proofs.Faults.{reported_after}
use Rattle.tb_conllu.proofs.laws.fault_after_sentences.Goals as goal

pub returns : goal.returns
returns c = reported_after
