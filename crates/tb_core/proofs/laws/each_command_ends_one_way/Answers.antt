use Rattle.tb_core.proofs.Once.{steps_once}
use Rattle.tb_core.proofs.laws.each_command_ends_one_way.Goals as goal

pub returns : goal.returns
returns c = steps_once (record { one_list = c.one_list_has_a_text.ensures; one_fault = c.one_fault_is_reported.ensures; one_rule = c.one_sentence_is_reported.ensures })
