use Rattle.std.proofs.Common.{None, Some, ◌≤◌, ap, arith, inl, length, rules}
use Rattle.tb_host.specs.Words.{here, none}
use Rattle.tb_host.proofs.Valued.{first_on, none_left, so_first, takes_a_word}
use Rattle.tb_host.proofs.wrong.first_wrong.Goals as goal

pub loop-init : goal.loop-init
loop-init c = (
  (c.new-values.result, c.new-values.ensures.words.0, c.new-values.ensures.words.1, c.new-values.ensures.first.0, c.new-values.ensures.first.1, λ r h. h),
  omega (arith, ap length c.new-values.ensures.words.1),
)

pub loop-preserved : goal.loop-preserved
loop-preserved c = (
  first_on _ _ c.loop.values c.next.new.self c.in_ok-given.given c.loop.invariant.0 c.in_ok-given.ensures.next c.in-None.ensures,
  omega (arith, c.loop.invariant.1, takes_a_word c.loop.values c.next.new.self c.in_ok-given.given c.in_ok-given.ensures.next),
)

pub returns-in_err-given-clause-first : goal.returns-in_err-given-clause-first
returns-in_err-given-clause-first c = rw c.from_residual.ensures (so_first _ _ c.loop.values c.loop.invariant.0 None (none c.loop.values c.in_err-given.ensures.next))

pub returns-in-Some-clause-first : goal.returns-in-Some-clause-first
returns-in-Some-clause-first c =
    so_first _ _ c.loop.values c.loop.invariant.0 (Some (c.in_ok-given.given, c.in-Some.form))
    (here c.loop.values c.next.new.self c.in_ok-given.given c.in-Some.form c.in_ok-given.ensures.next c.in-Some.ensures.0 c.in-Some.ensures.1)

pub returns-clause-first : goal.returns-clause-first
returns-clause-first c =
    let short : length c.loop.values.words.now ≤ 0 = search rules in
    so_first _ _ c.loop.values c.loop.invariant.0 None (none c.loop.values (inl (none_left c.loop.values.words.now short)))
