use Rattle.std.proofs.Common.{◌≡◌, ◌+◌, length, subst, sym, rules}
use Rattle.tb_desk.specs.Clients.{Become}
use Rattle.tb_desk.proofs.Noted.{end_served, end_ended, end_parted, all_came, all_served, all_go_on, all_parted, on_more, on_served, is_done}
use Rattle.tb_desk.proofs.clients.serve_all.Goals as goal

pub returns-in-Err-clause-served : goal.returns-in-Err-clause-served
returns-in-Err-clause-served g c =
    end_served c.loop.counter c.in-Ok.next c.take_turn.result _ _ _ _ c.loop.invariant.3 c.in-Ok.ensures.noted c.take_turn.ensures.turn c.in-Err.cause c.in-Err.is _ c.part_all.ensures.noted

pub loop-preserved : goal.loop-preserved
loop-preserved g c = (
  search rules,
  search rules,
  search rules,
  on_more c.loop.counter c.in-Ok.next c.take_turn.result _ _ _ _ c.loop.invariant.3 c.in-Ok.ensures.noted c.take_turn.ensures.turn (is_done c.take_turn.result c.in_default-take_turn.not-Err),
)

pub returns-in-Err-clause-ended : goal.returns-in-Err-clause-ended
returns-in-Err-clause-ended g c = λ _.
    end_ended c.loop.counter c.in-Ok.next c.take_turn.result _ _ _ _ c.loop.invariant.3 c.in-Ok.ensures.noted c.take_turn.ensures.turn c.in-Err.cause c.in-Err.is _ c.part_all.ensures.noted

pub returns-in-Err-clause-parted : goal.returns-in-Err-clause-parted
returns-in-Err-clause-parted g c = λ _.
    end_parted c.loop.counter c.in-Ok.next c.take_turn.result _ _ _ _ c.loop.invariant.3 c.in-Ok.ensures.noted c.take_turn.ensures.turn c.in-Err.cause c.in-Err.is _ c.part_all.ensures.noted

pub returns-clause-came : goal.returns-clause-came
returns-clause-came g c =
    subst (λ n. Become (g.C.Clients.noted c.args.clients.now) (g.C.Clients.noted c.part_all-2.new.self) (λ before after. length after.came ≡ length before.came + n)) (sym c.loop.invariant.0)
    (all_came c.loop.counter _ _ _ c.loop.invariant.3 c.part_all-2.ensures.noted)

pub returns-clause-served : goal.returns-clause-served
returns-clause-served g c = all_served c.loop.counter _ _ _ c.loop.invariant.3 c.part_all-2.ensures.noted

pub returns-clause-goes_on : goal.returns-clause-goes_on
returns-clause-goes_on g c = all_go_on c.loop.counter _ _ _ c.loop.invariant.3 c.part_all-2.ensures.noted

pub returns-clause-parted : goal.returns-clause-parted
returns-clause-parted g c = λ _. all_parted c.loop.counter _ _ _ c.loop.invariant.3 c.part_all-2.ensures.noted

pub returns-in_default-clause-served : goal.returns-in_default-clause-served
returns-in_default-clause-served g c = on_served c.loop.counter _ _ c.loop.invariant.3 _ c.in_default.ensures.failed
