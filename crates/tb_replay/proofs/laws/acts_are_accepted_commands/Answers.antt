use Rattle.tb_replay.proofs.Accepting.{Bodies, act_is_command, command_is_act}
use Rattle.tb_replay.proofs.laws.acts_are_accepted_commands.Goals as goal

pub returns : goal.returns
returns c =
    let bodies : Bodies = record { one_list = c.one_list_has_a_text.ensures; no_file = c.reported_bytes_are_no_file.ensures; sound = c.faulty_sentences_are_not_valid.ensures } in
    λ l s a r. (act_is_command bodies l s a r, command_is_act c.one_list_has_a_text.ensures l s a r)
