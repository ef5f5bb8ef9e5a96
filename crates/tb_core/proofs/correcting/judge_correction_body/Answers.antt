use Rattle.std.proofs.Common.{true, false, sym, ◌∙◌}
use Rattle.std.proofs.lemmas.Result.{err_from_is_err_and}
use Rattle.tb_core.proofs.Bodies.{Laws}
use Rattle.tb_core.proofs.FoundOnce.{room_there}
use Rattle.tb_core.proofs.BodyTests.{taking_then}
use Rattle.tb_core.proofs.Corrections.{correct_stops, correct_full, correct_accepted}
use Rattle.tb_core.proofs.correcting.judge_correction_body.Goals as goal

pub returns-in_err-passage-clause-refused : goal.returns-in_err-passage-clause-refused
returns-in_err-passage-clause-refused g c =
    let reported = err_from_is_err_and c.from_residual.result c.from_residual.ensures.1 in
    let laws : Laws = record { one_list = c.one_list_has_a_text.ensures; no_file = c.reported_bytes_are_no_file.ensures; not_valid = c.faulty_sentences_are_not_valid.ensures } in
    rw (reported.1, reported.2) (taking_then _ _ c.in_err-passage.field-0.0
    (λ r h s n base user place x reached named same m. correct_stops laws c.args.limits.now s n base user c.args.body.now place x c.args.current.now r reached named same h)
    c.in_err-passage.ensures.refused)

pub returns-then-not-has_room-clause-refused : goal.returns-then-not-has_room-clause-refused
returns-then-not-has_room-clause-refused g c =
    let laws : Laws = record { one_list = c.one_list_has_a_text.ensures; no_file = c.reported_bytes_are_no_file.ensures; not_valid = c.faulty_sentences_are_not_valid.ensures } in
    rw c.from.ensures (λ s n base user place x reached named same m.
    correct_full laws c.args.limits.now s n base user c.args.body.now place x c.args.current.now c.in_ok-passage.passage.block reached named same c.in_ok-passage.ensures.taken
    (room_there s c.args.moves c.args.limits.now.moves false m (sym c.has_room.ensures ∙ c.if-not-has_room.true)))

pub returns-clause-accepted : goal.returns-clause-accepted
returns-clause-accepted g c =
    let laws : Laws = record { one_list = c.one_list_has_a_text.ensures; no_file = c.reported_bytes_are_no_file.ensures; not_valid = c.faulty_sentences_are_not_valid.ensures } in
    λ s n base user place x reached named same m.
    correct_accepted laws c.args.limits.now s n base user c.args.body.now place x c.args.current.now c.in_ok-passage.passage.block reached named same c.in_ok-passage.ensures.taken
    (room_there s c.args.moves c.args.limits.now.moves true m (sym c.has_room.ensures ∙ c.if-not-has_room.false))
