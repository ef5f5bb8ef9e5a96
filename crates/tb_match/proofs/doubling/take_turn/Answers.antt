use Rattle.std.proofs.Common.{arith, ◌≡◌, ◌+◌, ◌-◌, ◌/◌, ◌↔◌, suc, sym, subst}
use Rattle.std.proofs.lemmas.Nat.{div-add-mod'}
use Rattle.tb_match.specs.Bits.{Repeated}
use Rattle.tb_match.proofs.Doubles.{turn_taken, half_turns, linked_doubled, onward_doubled, half_bound, closed_doubled}
use Rattle.tb_match.proofs.Sweeps.{closed_before, linked_before, forward_before}
use Rattle.tb_match.proofs.doubling.take_turn.Goals as goal

pub returns-then-left-eq0-clause-rows : goal.returns-then-left-eq0-clause-rows
returns-then-left-eq0-clause-rows c = λ i j p q.
    let L = c.args.links.now in
    let L' = c.square.new.links in
    let T = c.args.table.now in
    let w = c.args.shape.width in
    let last = c.args.shape.last in
    let half = c.args.left / 2 in
    let e : c.args.left ≡ half + half = omega (arith, c.if-left-eq0.true, div-add-mod' c.args.left 2) in
    subst (λ n. Repeated L' T w last half i j ↔ Repeated L T w last n i j) (sym e)
    (half_turns L L' w last c.requires.onward c.square.ensures.rows T half i j p)

pub returns-then-left-eq0-clause-linked : goal.returns-then-left-eq0-clause-linked
returns-then-left-eq0-clause-linked c = λ is.
    linked_doubled c.args.links.now c.square.new.links c.args.shape.width c.args.shape.last c.requires.onward c.square.ensures.rows c.args.table.now (c.requires.linked is)

pub returns-then-left-eq0-clause-onward : goal.returns-then-left-eq0-clause-onward
returns-then-left-eq0-clause-onward c =
    onward_doubled c.args.links.now c.square.new.links c.args.shape.width c.args.shape.last c.requires.onward c.square.ensures.rows

pub returns-then-left-eq0-clause-chained : goal.returns-then-left-eq0-clause-chained
returns-then-left-eq0-clause-chained c = λ two is.
    closed_doubled c.args.links.now c.square.new.links c.args.shape.width c.args.shape.last (c.requires.chained two is) c.square.ensures.rows

pub returns-then-left-eq0-clause-bound : goal.returns-then-left-eq0-clause-bound
returns-then-left-eq0-clause-bound c =
    let e : c.args.left ≡ c.args.left / 2 + c.args.left / 2 = omega (arith, c.if-left-eq0.true, div-add-mod' c.args.left 2) in
    half_bound c.args.left (c.args.left / 2) _ c.args.steps.now c.square.new.steps e (omega arith) c.square.ensures.bound

pub returns-clause-rows : goal.returns-clause-rows
returns-clause-rows c = λ i j p q.
    let L = c.args.links.now in
    let T = c.args.table.now in
    let T' = c.compose.new.table in
    let w = c.args.shape.width in
    let last = c.args.shape.last in
    let e : suc (c.args.left - 1) ≡ c.args.left = omega arith in
    subst (λ n. Repeated L T' w last (c.args.left - 1) i j ↔ Repeated L T w last n i j) e
    (turn_taken L T T' w last c.compose.ensures.rows (c.args.left - 1) i j p q)

pub returns-clause-closed : goal.returns-clause-closed
returns-clause-closed c = λ is.
    closed_before c.args.links.now c.args.table.now c.compose.new.table c.args.shape.width c.args.shape.last (c.requires.linked is) c.compose.ensures.rows (c.requires.closed is)

pub returns-clause-linked : goal.returns-clause-linked
returns-clause-linked c = λ is.
    linked_before c.args.links.now c.args.table.now c.compose.new.table c.args.shape.width c.args.shape.last (c.requires.linked is) c.compose.ensures.rows

pub returns-clause-forward : goal.returns-clause-forward
returns-clause-forward c = λ is.
    forward_before c.args.links.now c.args.table.now c.compose.new.table c.args.shape.width c.args.shape.last (c.requires.linked is) c.compose.ensures.rows (c.requires.forward is)
