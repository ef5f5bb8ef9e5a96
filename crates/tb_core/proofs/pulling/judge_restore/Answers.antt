use Rattle.std.proofs.Common.{true, false, sym, ◌∙◌}
use Rattle.std.proofs.lemmas.Result.{err_from_is_err_and}
use Rattle.tb_core.proofs.FoundOnce.{room_there}
use Rattle.tb_core.proofs.Pulls.{restore_refused, restore_full, restore_accepted}
use Rattle.tb_core.proofs.pulling.judge_restore.Goals as goal

pub returns-in_err-state-clause-refused : goal.returns-in_err-state-clause-refused
returns-in_err-state-clause-refused c =
    let reported = err_from_is_err_and c.from_residual.result c.from_residual.ensures.1 in
    rw (reported.1, reported.2) (λ s h m. restore_refused c.args.limits.now s c.args.number c.args.user.now c.in-Some.sentence c.in_err-state.field-0.0
    (sym c.good_name.ensures ∙ c.if-not-good_name.false)
    (rw c.in-Some.is at h)
    (sym c.decide_restore.ensures ∙ c.in_err-state.was))

pub returns-then-not-has_room-clause-refused : goal.returns-then-not-has_room-clause-refused
returns-then-not-has_room-clause-refused c = λ s h m.
    restore_full c.args.limits.now s c.args.number c.args.user.now c.in-Some.sentence c.in_ok-state.state
    (sym c.good_name.ensures ∙ c.if-not-good_name.false)
    (rw c.in-Some.is at h)
    (sym c.decide_restore.ensures ∙ c.in_ok-state.was)
    (room_there s c.args.moves c.args.limits.now.moves false m (sym c.has_room.ensures ∙ c.if-not-has_room.true))

pub returns-clause-accepted : goal.returns-clause-accepted
returns-clause-accepted c = λ s h m.
    restore_accepted c.args.limits.now s c.args.number c.args.user.now c.in-Some.sentence c.in_ok-state.state
    (sym c.good_name.ensures ∙ c.if-not-good_name.false)
    (rw c.in-Some.is at h)
    (sym c.decide_restore.ensures ∙ c.in_ok-state.was)
    (room_there s c.args.moves c.args.limits.now.moves true m (sym c.has_room.ensures ∙ c.if-not-has_room.false))
