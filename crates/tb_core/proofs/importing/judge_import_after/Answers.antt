use Rattle.std.proofs.Common.{true, false, sym, ◌∙◌}
use Rattle.tb_core.proofs.Bodies.{Laws}
use Rattle.tb_core.proofs.Imports.{import_id_taken, import_full, import_accepted, room_for, none_of}
use Rattle.tb_core.proofs.importing.judge_import_after.Goals as goal

pub returns-in-Some-clause-refused : goal.returns-in-Some-clause-refused
returns-in-Some-clause-refused c =
    let laws : Laws = record { one_list = c.one_list_has_a_text.ensures; no_file = c.reported_bytes_are_no_file.ensures; not_valid = c.faulty_sentences_are_not_valid.ensures } in
    λ s name user body bs taken found p q m. import_id_taken laws c.args.limits.now s name user body bs c.in-Some.sentence taken (rw c.in-Some.is at found)

pub returns-then-not-has_import_room-clause-refused : goal.returns-then-not-has_import_room-clause-refused
returns-then-not-has_import_room-clause-refused c =
    let laws : Laws = record { one_list = c.one_list_has_a_text.ensures; no_file = c.reported_bytes_are_no_file.ensures; not_valid = c.faulty_sentences_are_not_valid.ensures } in
    λ s name user body bs taken found p q m. import_full laws c.args.limits.now s name user body bs taken (rw (none_of c.args.standing c.in_default.not-Some) at found)
    (room_for c.args.limits.now s bs c.args.new c.args.sentences c.args.moves false p q m (sym c.has_import_room.ensures ∙ c.if-not-has_import_room.true))

pub returns-clause-accepted : goal.returns-clause-accepted
returns-clause-accepted c =
    let laws : Laws = record { one_list = c.one_list_has_a_text.ensures; no_file = c.reported_bytes_are_no_file.ensures; not_valid = c.faulty_sentences_are_not_valid.ensures } in
    λ s name user body bs taken found p q m. import_accepted laws c.args.limits.now s name user body bs taken (rw (none_of c.args.standing c.in_default.not-Some) at found)
    (room_for c.args.limits.now s bs c.args.new c.args.sentences c.args.moves true p q m (sym c.has_import_room.ensures ∙ c.if-not-has_import_room.false))
