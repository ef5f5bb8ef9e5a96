use Rattle.std.proofs.Common.{◌≡◌, ◌∙◌, ◌+◌, [], map, drop, subst, sym, refl, ap, arith, Ok, Err, IfErr}
use Rattle.std.specs.Prelude.{vec_items}
use Rattle.std.proofs.lemmas.List.{drop_all}
use Rattle.std.proofs.lemmas.Result.{err_from_is_err_and}
use Rattle.tb_answer.specs.declared.answering.Broken.TheVariants.{Write}
use Rattle.tb_answer.specs.Turns.{IsAnswered, AreServed}
use Rattle.tb_answer.proofs.Chained.{ok_is_no_read, only_write}
use Rattle.tb_answer.proofs.Rounds.{Awaits, at_hand, one_more, one_broken, none_left}
use Rattle.tb_answer.proofs.answering.answer_all.Goals as goal

pub loop-request-init : goal.loop-request-init
loop-request-init g c = (refl, (λ e v later result run. (later, run)))

pub loop-request-preserved : goal.loop-request-preserved
loop-request-preserved g c =
    let requests = c.args.requests.now in
    let at = c.loop-request.request-index in
    let awaits = at_hand g.W.Sink.held g.W.Sink.IsRefusal g.S.Store vec_items requests at c.request-item.result c.as_slice.result.now (map vec_items requests) c.args.desk.now c.loop-request.desk c.args.out.now c.loop-request.out c.loop-request-test.true c.request-item.is c.as_slice.ensures.value c.loop-request.invariant.1 in
    let turn : IsAnswered g.W.Sink.held g.W.Sink.IsRefusal g.S.Store c.as_slice.result.now c.loop-request.desk c.answer.new.desk c.loop-request.out c.answer.new.out (Ok c.in_ok-answer.field-0) = record { answered = c.in_ok-answer.ensures.answered (ok_is_no_read c.in_ok-answer.field-0); crash = c.in_ok-answer.ensures.crash; limits = c.in_ok-answer.ensures.limits } in (
      c.in_ok-answer.ensures.limits ∙ c.loop-request.invariant.0,
      one_more g.W.Sink.held g.W.Sink.IsRefusal g.S.Store (map vec_items requests) (map vec_items (drop (at + 1) requests)) c.as_slice.result.now c.args.desk.now c.loop-request.desk c.answer.new.desk c.args.out.now c.loop-request.out c.answer.new.out c.in_ok-answer.field-0 turn awaits,
    )

pub returns-in_err-answer-clause-answered : goal.returns-in_err-answer-clause-answered
returns-in_err-answer-clause-answered g c =
    let requests = c.args.requests.now in
    let at = c.loop-request.request-index in
    let p = err_from_is_err_and c.from_residual.result c.from_residual.ensures.1 in
    let awaits = at_hand g.W.Sink.held g.W.Sink.IsRefusal g.S.Store vec_items requests at c.request-item.result c.as_slice.result.now (map vec_items requests) c.args.desk.now c.loop-request.desk c.args.out.now c.loop-request.out c.loop-request-test.true c.request-item.is c.as_slice.ensures.value c.loop-request.invariant.1 in
    let turn : IsAnswered g.W.Sink.held g.W.Sink.IsRefusal g.S.Store c.as_slice.result.now c.loop-request.desk c.answer.new.desk c.loop-request.out c.answer.new.out (Err c.in_err-answer.field-0.0) = record { answered = c.in_err-answer.ensures.answered (λ is. (c.in_err-answer.ensures.cause is).0.1); crash = c.in_err-answer.ensures.crash; limits = c.in_err-answer.ensures.limits } in
    subst (AreServed g.W.Sink.held g.W.Sink.IsRefusal g.S.Store (map vec_items requests) c.args.desk.now c.answer.new.desk c.args.out.now c.answer.new.out) (sym (p.1 ∙ ap Err p.2))
    (one_broken g.W.Sink.held g.W.Sink.IsRefusal g.S.Store (map vec_items requests) (map vec_items (drop (at + 1) requests)) c.as_slice.result.now c.args.desk.now c.loop-request.desk c.answer.new.desk c.args.out.now c.loop-request.out c.answer.new.out c.in_err-answer.field-0.0 (λ is. (c.in_err-answer.ensures.cause (ap Err is)).0.1) turn awaits)

pub returns-in_err-answer-clause-write : goal.returns-in_err-answer-clause-write
returns-in_err-answer-clause-write g c =
    let p = err_from_is_err_and c.from_residual.result c.from_residual.ensures.1 in
    subst (λ r. IfErr r (λ e. e ≡ Write)) (sym (p.1 ∙ ap Err p.2)) (only_write c.in_err-answer.field-0.0 (λ is. (c.in_err-answer.ensures.cause (ap Err is)).0.1))

pub returns-clause-answered : goal.returns-clause-answered
returns-clause-answered g c =
    let requests = c.args.requests.now in
    let ended : drop c.loop-request.request-index requests ≡ [] = drop_all c.loop-request.request-index requests (omega (arith, c.loop-request-test.false)) in
    none_left g.W.Sink.held g.W.Sink.IsRefusal g.S.Store (map vec_items requests) c.args.desk.now c.loop-request.desk c.args.out.now c.loop-request.out
    (subst (λ rest. Awaits g.W.Sink.held g.W.Sink.IsRefusal g.S.Store (map vec_items requests) (map vec_items rest) c.args.desk.now c.loop-request.desk c.args.out.now c.loop-request.out) ended c.loop-request.invariant.1)
