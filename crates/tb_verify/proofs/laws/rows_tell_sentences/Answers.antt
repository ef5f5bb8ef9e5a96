use Rattle.tb_verify.proofs.Reported.{one_file}
use Rattle.tb_verify.proofs.laws.rows_tell_sentences.Goals as goal

pub returns : goal.returns
returns c = one_file c.one_list_has_a_text.ensures
