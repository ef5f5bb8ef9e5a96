use Rattle.std.proofs.Common.{arith, inr, ap, sym, subst, ◌∙◌, List, Err, IfErr}
use Rattle.std.proofs.lemmas.Result.{err_from_is_err_and}
use Rattle.std.specs.Duration.{as_nanos}
use Rattle.tb_desk.specs.Sockets.{Call, IsFailedWelcome, Makes}
use Rattle.tb_desk.proofs.Making.{welcome_fails}
use Rattle.tb_desk.proofs.waiting.heard.Goals as goal

pub returns-clause-room : goal.returns-clause-room
returns-clause-room g c = omega (arith, c.hear.ensures.most, c.new-caller.ensures.said)

pub returns-clause-time : goal.returns-clause-time
returns-clause-time g c head = ap as_nanos (c.hear.ensures.time.same (inr head)) ∙ c.new-caller.ensures.begins.1

pub returns-in_err-await_rest-clause-failed : goal.returns-in_err-await_rest-clause-failed
returns-in_err-await_rest-clause-failed g c =
    let calls = g.S.Sockets.calls in
    let p = err_from_is_err_and c.from_residual-in_err-await_rest.result c.from_residual-in_err-await_rest.ensures.1 in
    subst (λ r. IfErr r (λ e. (made : List Call) × IsFailedWelcome c.args.stream c.args.is_alone e made × Makes (calls c.args.sockets.now) (calls c.await_rest.new.sockets) made))
    (sym (p.1 ∙ ap Err p.2))
    (welcome_fails (calls c.args.sockets.now) (calls c.await_first.new.sockets) (calls c.await_rest.new.sockets) c.args.stream c.hear.new.self.stream c.in_err-await_rest.field-0.0
    (c.hear.ensures.said.0 ∙ c.new-caller.ensures.stream) c.args.is_alone c.hear.new.self.awaited c.in_ok-await_first.ensures c.in_err-await_rest.ensures.waits
    (λ h. (c.in_err-await_rest.ensures.others h).0))
