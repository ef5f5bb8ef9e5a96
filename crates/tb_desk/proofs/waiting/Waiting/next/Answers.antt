use Rattle.std.proofs.Common.{◌≤◌, ◌+◌, ◌∙◌, min, vec_len, subst, sym, ap, arith, rules, Ok, Err, IfErr}
use Rattle.std.proofs.lemmas.Result.{err_from_is_err_and}
use Rattle.tb_desk.specs.Sockets.{FailsBy}
use Rattle.tb_desk.proofs.Asked.{asked_now}
use Rattle.tb_desk.proofs.Making.{asked_made, asking_fails, clock_fails, clock_made, lets_go, made_by_room, made_more}
use Rattle.tb_desk.proofs.Pausing.{asked_once, even_made, even_more, even_pauses, even_then, fails_once, once_looked, once_next, once_unlooked, turn_even}
use Rattle.tb_desk.proofs.Staying.{have_time_now}
use Rattle.tb_desk.proofs.waiting.Waiting.next.Goals as goal

pub returns-in-Some-clause-ended : goal.returns-in-Some-clause-ended
returns-in-Some-clause-ended g c = have_time_now c.look.new.self.looked c.take.new.self.looked c.take.new.self.leavers.items c.look.new.self.leavers.items c.in_ok-at.ensures.ended

pub returns-in-Some-clause-asked : goal.returns-in-Some-clause-asked
returns-in-Some-clause-asked g c = λ few.
    subst (λ a. min (c.args.self.now.accepts.count + 1) 18446744073709551615 ≤ a) (sym (ap (λ a. a.count) c.look.ensures.unasked))
    (asked_now (vec_len c.args.self.now.callers) c.args.self.now.accepts.count (vec_len c.loop.self.callers) c.loop.self.accepts.count c.take.new.self.accepts.count
    c.loop.invariant.1 c.in_ok-has_come.ensures.asked c.take.ensures.counted few)

pub returns-in-Some-clause-called : goal.returns-in-Some-clause-called
returns-in-Some-clause-called g c =
    let calls = g.S.Sockets.calls in
    let took = made_by_room (vec_len c.loop.self.callers) (calls c.loop.sockets) (calls c.take.new.sockets) (λ full. ap calls (c.take.ensures.full full).2)
    (λ room. asked_made _ _ _ _ _ (c.in_ok-has_come.ensures.called room)) in
    let looked = clock_made (calls c.take.new.sockets) (calls c.look.new.sockets) c.look.new.self.looked _ c.in_ok-at.ensures.called in
    lets_go _ (calls c.look.new.sockets) _ _ _ _ (made_more _ _ _ (even_made _ _ c.loop.invariant.2) (made_more _ _ _ took looked)) c.next_of.ensures

pub returns-in_err-has_come-clause-failed : goal.returns-in_err-has_come-clause-failed
returns-in_err-has_come-clause-failed g c =
    let calls = g.S.Sockets.calls in
    let p = err_from_is_err_and c.from_residual.result c.from_residual.ensures.1 in
    subst (λ r. IfErr r (FailsBy (calls c.args.sockets.now) (calls c.take.new.sockets))) (sym (p.1 ∙ ap Err p.2))
    (asking_fails _ (calls c.loop.sockets) _ _ _ _ (even_made _ _ c.loop.invariant.2) c.in_err-has_come.ensures.failed)

pub returns-in_err-at-clause-failed : goal.returns-in_err-at-clause-failed
returns-in_err-at-clause-failed g c =
    let calls = g.S.Sockets.calls in
    let took = made_by_room (vec_len c.loop.self.callers) (calls c.loop.sockets) (calls c.take.new.sockets) (λ full. ap calls (c.take.ensures.full full).2)
    (λ room. asked_made _ _ _ _ _ (c.in_ok-has_come.ensures.called room)) in
    let p = err_from_is_err_and c.from_residual-in_err-at.result c.from_residual-in_err-at.ensures.1 in
    subst (λ r. IfErr r (FailsBy (calls c.args.sockets.now) (calls c.look.new.sockets))) (sym (p.1 ∙ ap Err p.2))
    (clock_fails _ (calls c.take.new.sockets) _ _ (made_more _ _ _ (even_made _ _ c.loop.invariant.2) took) c.in_err-at.ensures.cause)

pub returns-in-Some-clause-pauses : goal.returns-in-Some-clause-pauses
returns-in-Some-clause-pauses g c =
    let calls = g.S.Sockets.calls in
    let took = asked_once (vec_len c.loop.self.callers) _ _ _ (calls c.loop.sockets) (calls c.take.new.sockets) (λ full. ap calls (c.take.ensures.full full).2) c.in_ok-has_come.ensures.called in
    let looked = once_looked _ _ (calls c.look.new.sockets) c.look.new.self.looked took c.in_ok-at.ensures.called in
    even_then _ _ _ c.loop.invariant.2 (once_next _ _ _ _ _ _ looked c.next_of.ensures)

pub returns-in_err-has_come-clause-pauses : goal.returns-in_err-has_come-clause-pauses
returns-in_err-has_come-clause-pauses g c =
    even_then _ _ _ c.loop.invariant.2 (fails_once (g.S.Sockets.calls c.loop.sockets) (g.S.Sockets.calls c.take.new.sockets) _ _ _ c.in_err-has_come.ensures.failed)

pub returns-in_err-at-clause-pauses : goal.returns-in_err-at-clause-pauses
returns-in_err-at-clause-pauses g c =
    let calls = g.S.Sockets.calls in
    let took = asked_once (vec_len c.loop.self.callers) _ _ _ (calls c.loop.sockets) (calls c.take.new.sockets) (λ full. ap calls (c.take.ensures.full full).2) c.in_ok-has_come.ensures.called in
    even_then _ _ _ c.loop.invariant.2 (once_unlooked _ _ (calls c.look.new.sockets) _ took c.in_err-at.ensures.cause)

pub returns-clause-pauses : goal.returns-clause-pauses
returns-clause-pauses g c = even_pauses _ _ c.loop.invariant.2

pub loop-preserved : goal.loop-preserved
loop-preserved g c =
    let calls = g.S.Sockets.calls in
    let count = c.in_ok-at.ensures.count in
    let turn = turn_even (vec_len c.loop.self.callers) (vec_len c.look.new.self.callers) _ _ c.in_ok-has_come.has_come (calls c.loop.sockets) (calls c.take.new.sockets) (calls c.look.new.sockets) (calls c.rest.new.sockets) c.look.new.self.looked
    (λ full. ap calls (c.take.ensures.full full).2) c.in_ok-has_come.ensures.called c.in_ok-at.ensures.called
    (λ full. ap calls (c.rest.ensures.no_pause full)) c.rest.ensures.pause
    (λ full. let same = ap vec_len (c.take.ensures.full full).1 in omega (arith, full, same, count))
    (λ room none. let less = c.in_ok-has_come.ensures.vain (ap Ok none) in omega (arith, room, less, count)) in (
      search rules,
      search rules,
      even_more _ _ _ c.loop.invariant.2 turn,
    )
