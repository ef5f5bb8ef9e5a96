use Rattle.tb_core.specs.Reaching.{largest}
use Rattle.tb_replay.proofs.Accepting.{Bodies, commanded, reached_within}
use Rattle.tb_replay.proofs.laws.commands_lead_to_reached_states.Goals as goal

pub returns-clause-within : goal.returns-clause-within
returns-clause-within c =
    let bodies : Bodies = record { one_list = c.one_list_has_a_text.ensures; no_file = c.reported_bytes_are_no_file.ensures; sound = c.faulty_sentences_are_not_valid.ensures } in
    λ l s. (reached_within l s, λ h. commanded bodies l s h.0 h.1 h.2)

pub returns-clause-largest : goal.returns-clause-largest
returns-clause-largest c =
    let bodies : Bodies = record { one_list = c.one_list_has_a_text.ensures; no_file = c.reported_bytes_are_no_file.ensures; sound = c.faulty_sentences_are_not_valid.ensures } in
    λ s. (
      λ h. let k = reached_within largest s h in record { reached = k.0; sentences = k.1; moves = k.2 },
      λ h. commanded bodies largest s h.reached h.sentences h.moves,
    )
