use Rattle.std.proofs.Common.{◌≡◌, arith, get_or, refl, subst}
use Rattle.tb_host.proofs.Numbered.{all_right, none_yet, off_here, one_more_here}
use Rattle.tb_host.specs.Looked.{HasSums, HasSumsAt}
use Rattle.tb_host.proofs.misfit.look_at_totals.Goals as goal

pub loop-at-init : goal.loop-at-init
loop-at-init c = none_yet (HasSums c.args.totals.now) c.args.rows.now

pub loop-at-preserved : goal.loop-at-preserved
loop-at-preserved c = one_more_here (HasSums c.args.totals.now) c.args.rows.now c.loop-at.at (omega (arith, c.loop-at-test.true)) (λ d. (c.loop-at.at, refl, c.if-not-has_sums_at.ensures.yes refl d)) c.loop-at.invariant

pub returns-then-not-has_sums_at-clause-wrong : goal.returns-then-not-has_sums_at-clause-wrong
returns-then-not-has_sums_at-clause-wrong c = (
  refl,
  off_here (HasSums c.args.totals.now) c.args.rows.now c.loop-at.at (omega (arith, c.loop-at-test.true))
      (λ d has. let same : has.0 ≡ c.loop-at.at = omega (arith, has.1) in c.if-not-has_sums_at.ensures.no refl (omega (arith, c.loop-at-test.true)) d (subst (λ k. HasSumsAt c.args.totals.now k (get_or c.args.rows.now c.loop-at.at d)) same has.2)) c.loop-at.invariant,
)

pub returns-then-not-has_six-clause-wrong : goal.returns-then-not-has_six-clause-wrong
returns-then-not-has_six-clause-wrong c = (refl, refl, c.if-not-has_six.ensures.no refl, all_right (HasSums c.args.totals.now) c.args.rows.now c.loop-at.at (omega (arith, c.loop-at-test.false)) c.loop-at.invariant)

pub returns-clause-right : goal.returns-clause-right
returns-clause-right c = (all_right (HasSums c.args.totals.now) c.args.rows.now c.loop-at.at (omega (arith, c.loop-at-test.false)) c.loop-at.invariant, c.has_six.ensures.yes c.if-not-has_six.false)
