use Rattle.std.proofs.Common.{◌≡◌, true, false, Ok, Err, sym, ◌∙◌, subst}
use Rattle.std.proofs.lemmas.Result.{err_from_is_err_and}
use Rattle.tb_core.specs.Deciding.{event_decision}
use Rattle.tb_core.specs.Found.{BatchSeen}
use Rattle.tb_core.proofs.FoundOnce.{room_there}
use Rattle.tb_core.proofs.Eventful.{event_makes, event_refused, event_full, event_accepted}
use Rattle.tb_core.proofs.events.judge_event.Goals as goal

pub returns-in_err-makes-clause-refused : goal.returns-in_err-makes-clause-refused
returns-in_err-makes-clause-refused c =
    let reported = err_from_is_err_and c.from_residual.result c.from_residual.ensures.1 in
    rw (reported.1, reported.2) (λ s reached h m. event_refused c.args.limits.now s c.args.name.now c.args.event c.args.user.now c.in-Some.batch.now c.in_err-makes.field-0.0
    (sym c.good_names.ensures ∙ c.if-not-good_names.false)
    (rw c.in-Some.is at h)
    (subst (λ (f : BatchSeen). event_decision f.state f.worker c.args.event c.args.user.now ≡ Err c.in_err-makes.field-0.0) c.batch.view_is (sym c.decide_event.ensures ∙ c.in_err-makes.was)))

pub returns-then-not-has_room-clause-refused : goal.returns-then-not-has_room-clause-refused
returns-then-not-has_room-clause-refused c = λ s reached h m.
    event_full c.args.limits.now s c.args.name.now c.args.event c.args.user.now c.in-Some.batch.now c.in_ok-makes.makes reached
    (sym c.good_names.ensures ∙ c.if-not-good_names.false)
    (rw c.in-Some.is at h)
    (subst (λ (f : BatchSeen). event_decision f.state f.worker c.args.event c.args.user.now ≡ Ok c.in_ok-makes.makes) c.batch.view_is (sym c.decide_event.ensures ∙ c.in_ok-makes.was))
    (room_there s c.args.moves c.args.limits.now.moves false m (sym c.has_room.ensures ∙ c.if-not-has_room.true))

pub returns-clause-made : goal.returns-clause-made
returns-clause-made c =
    event_makes c.batch.inside.state c.batch.inside.worker.now c.args.event c.args.user.now c.in_ok-makes.makes (sym c.decide_event.ensures ∙ c.in_ok-makes.was)

pub returns-clause-accepted : goal.returns-clause-accepted
returns-clause-accepted c = λ s reached h m.
    rw c.in-Some.is (event_accepted c.args.limits.now s c.args.name.now c.args.event c.args.user.now c.in-Some.batch.now c.in_ok-makes.makes reached
    (sym c.good_names.ensures ∙ c.if-not-good_names.false)
    (rw c.in-Some.is at h)
    (subst (λ (f : BatchSeen). event_decision f.state f.worker c.args.event c.args.user.now ≡ Ok c.in_ok-makes.makes) c.batch.view_is (sym c.decide_event.ensures ∙ c.in_ok-makes.was))
    (room_there s c.args.moves c.args.limits.now.moves true m (sym c.has_room.ensures ∙ c.if-not-has_room.false)))
