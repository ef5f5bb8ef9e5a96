use Rattle.std.proofs.Common.{arith, refl, sym}
use Rattle.std.proofs.lemmas.Bool.{true≢false}
use Rattle.tb_host.specs.Misfits.{HasNumber}
use Rattle.tb_host.proofs.Numbered.{all_right, none_yet, off_first, one_more_right}
use Rattle.tb_host.proofs.misfit.first_gap.Goals as goal

pub loop-at-init : goal.loop-at-init
loop-at-init c = none_yet HasNumber c.args.rows.now

pub loop-at-preserved : goal.loop-at-preserved
loop-at-preserved c = one_more_right HasNumber c.args.rows.now c.loop-at.at c.index-rows-at.result (omega (arith, c.loop-at-test.true)) c.index-rows-at.is (c.if-not-has_number.ensures.0 refl) c.loop-at.invariant

pub returns-then-not-has_number : goal.returns-then-not-has_number
returns-then-not-has_number c = off_first HasNumber c.args.rows.now c.loop-at.at c.index-rows-at.result (omega (arith, c.loop-at-test.true)) c.index-rows-at.is (λ has. true≢false (sym (c.if-not-has_number.ensures.1 has))) c.loop-at.invariant

pub returns : goal.returns
returns c = all_right HasNumber c.args.rows.now c.loop-at.at (omega (arith, c.loop-at-test.false)) c.loop-at.invariant
