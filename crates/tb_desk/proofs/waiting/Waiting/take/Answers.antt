use Rattle.std.proofs.Common.{◌==◌, ◌&&◌, vec_len, true, false, subst, sym}
use Rattle.std.proofs.lemmas.Result.{IfErr-weaker, IfOk-weaker}
use Rattle.tb_desk.specs.Sockets.{FailsToAsk, HasAsked}
use Rattle.tb_desk.proofs.Making.{asking_failed, has_asked, has_asked_in_vain, heard_so}
use Rattle.tb_desk.proofs.waiting.Waiting.take.Goals as goal

pub returns-in-Ok-clause-called : goal.returns-in-Ok-clause-called
returns-in-Ok-clause-called g c = λ few.
    let calls = g.S.Sockets.calls in
    subst (λ a. HasAsked (calls c.args.sockets.now) (calls c.heard.new.sockets) c.args.listener.now a true) c.is_alone-is_alone.ensures
    (has_asked (calls c.args.sockets.now) (calls c.set_listener.new.self) (calls c.accept.new.sockets) c.args.listener.now c.is_alone-is_alone.result c.in_ok-set_listener.ensures
    (calls c.heard.new.sockets) c.in-Ok.stream c.in-Ok.ensures.called
    (heard_so (calls c.accept.new.sockets) (calls c.heard.new.sockets) c.in-Ok.stream c.is_alone-is_alone.result c.heard.result c.heard.ensures.called c.heard.ensures.failed))

pub returns-in-Err-clause-called : goal.returns-in-Err-clause-called
returns-in-Err-clause-called g c =
    let calls = g.S.Sockets.calls in
    let asked = has_asked_in_vain (calls c.args.sockets.now) (calls c.set_listener.new.self) (calls c.accept.new.sockets) c.args.listener.now c.is_alone-is_alone.result
    c.in_ok-set_listener.ensures c.in-Err.error c.in-Err.ensures.called in
    IfOk-weaker c.go_without.result _ _ (λ has_come none few.
    subst (λ b. HasAsked (calls c.args.sockets.now) (calls c.accept.new.sockets) c.args.listener.now ((vec_len c.args.self.now.callers == 0) && (vec_len c.args.self.now.leavers == 0)) b) (sym none)
    (subst (λ a. HasAsked (calls c.args.sockets.now) (calls c.accept.new.sockets) c.args.listener.now a false) c.is_alone-is_alone.ensures asked))
    c.go_without.ensures.without

pub returns-in-Err-clause-failed : goal.returns-in-Err-clause-failed
returns-in-Err-clause-failed g c =
    let calls = g.S.Sockets.calls in
    let failed = asking_failed (calls c.args.sockets.now) (calls c.set_listener.new.self) (calls c.accept.new.sockets) c.args.listener.now c.is_alone-is_alone.result
    c.in_ok-set_listener.ensures c.in-Err.error c.in-Err.ensures.called in
    IfErr-weaker c.go_without.result _ _ (λ e same.
    subst (λ e. FailsToAsk (calls c.args.sockets.now) (calls c.accept.new.sockets) c.args.listener.now ((vec_len c.args.self.now.callers == 0) && (vec_len c.args.self.now.leavers == 0)) e) (sym same)
    (subst (λ a. FailsToAsk (calls c.args.sockets.now) (calls c.accept.new.sockets) c.args.listener.now a c.in-Err.error) c.is_alone-is_alone.ensures failed))
    c.go_without.ensures.cause
