use Rattle.std.proofs.Common.{◌∙◌, Err, ap, refl, subst, sym}
use Rattle.std.proofs.lemmas.Result.{err_from_is_err_and}
use Rattle.std.specs.Result.{result_err}
use Rattle.tb_host.proofs.Awaited.{none_tried, refused_so, tried_more, waited_in_vain}
use Rattle.tb_host.specs.Awaiting.{HasWaited}
use Rattle.tb_host.proofs.turns.locked.Goals as goal

pub loop-init : goal.loop-init
loop-init g c = (refl, none_tried _)

pub returns-in-Some-clause-waited : goal.returns-in-Some-clause-waited
returns-in-Some-clause-waited g c = refused_so _ _ _ _ c.loop.invariant.1 c.in-Err.error c.in-Err.ensures.called c.in-Some.cause c.in-Some.ensures

pub returns-in_err-wait-in-None-clause-waited : goal.returns-in_err-wait-in-None-clause-waited
returns-in_err-wait-in-None-clause-waited g c =
    let calls = g.A.Awaited.calls in
    let p = err_from_is_err_and c.from_residual.result c.from_residual.ensures.1 in
    subst (λ r. HasWaited (calls c.args.awaited.now) (calls c.wait.new.awaited) (result_err r)) (sym (p.1 ∙ ap Err p.2))
    (waited_in_vain _ _ _ _ c.loop.invariant.1 c.in-Err.error c.in-Err.ensures.called _ c.in_err-wait-in-None.field-0.0 c.in-None.ensures c.in_err-wait-in-None.ensures.called)

pub loop-preserved : goal.loop-preserved
loop-preserved g c = (
  c.in_ok-wait-in-None.ensures.since ∙ c.in-Err.ensures.since ∙ c.loop.invariant.0,
  tried_more _ _ _ _ c.loop.invariant.1 c.in-Err.error c.in-Err.ensures.called _ c.in-None.ensures c.in_ok-wait-in-None.ensures.called,
)
