use Rattle.std.proofs.Common.{arith, ◌≡◌, ◌+◌, ◌-◌, ◌≤◌, ◌≢◌, ◌↔◌, ◌⊎◌, ℕ, None, length, sym, subst, ap}
use Rattle.tb_match.specs.Bits.{InTable, Link}
use Rattle.tb_match.specs.Match.{Chain, IsAtMost}
use Rattle.tb_match.proofs.Limits.{some_least, some_unlimited}
use Rattle.tb_match.proofs.Repeats.{lent}
use Rattle.tb_match.proofs.relation.begun.Goals as goal

pub returns-clause-rows : goal.returns-clause-rows
returns-clause-rows c = λ i j p q.
    let L = c.args.links.now in
    let w = c.args.shape.width in
    let items = c.in_ok-rows.field-0.rows.items in
    let some : 1 ≤ c.args.bounds.least = omega arith in
    let v : c.deref_mut.result.now ≡ c.in_ok-rows.field-0.rows.items = c.deref_mut.ensures.value in
    let left = subst (λ xs. InTable c.leave.new.table w i j ↔ (InTable xs w i j × ((j ≢ i) ⊎ InTable L w i i))) v (c.leave.ensures.rows i j p q) in
    let same : length c.deref_mut.result.now ≡ length c.in_ok-rows.field-0.rows.items = ap length v in
    let e = lent c.in_ok-rows.field-0.rows.len c.leave.new.table items (omega (arith, c.in_ok-rows.field-0.rows.ok.0)) in
    subst (λ xs. InTable xs w i j ↔ ((k : ℕ) × (c.args.bounds.least ≤ c.args.bounds.least - 1 + k) × IsAtMost (c.args.bounds.least - 1 + k) c.args.bounds.most × Chain (Link c.args.links.now c.args.shape.width c.args.shape.last) k i j)) (sym e)
    (some_least L c.leave.new.table items w c.args.shape.last c.args.bounds.least c.args.bounds.most i j p some c.args.bounds.order (c.in_ok-rows.ensures.rows i j p q) left)

pub returns-clause-unlimited : goal.returns-clause-unlimited
returns-clause-unlimited c = λ is i j p q.
    let L = c.args.links.now in
    let w = c.args.shape.width in
    let items = c.in_ok-rows.field-0.rows.items in
    let some : 1 ≤ c.args.bounds.least = omega arith in
    let v : c.deref_mut.result.now ≡ c.in_ok-rows.field-0.rows.items = c.deref_mut.ensures.value in
    let left = subst (λ xs. InTable c.leave.new.table w i j ↔ (InTable xs w i j × ((j ≢ i) ⊎ InTable L w i i))) v (c.leave.ensures.rows i j p q) in
    let same : length c.deref_mut.result.now ≡ length c.in_ok-rows.field-0.rows.items = ap length v in
    let e = lent c.in_ok-rows.field-0.rows.len c.leave.new.table items (omega (arith, c.in_ok-rows.field-0.rows.ok.0)) in
    subst (λ xs. InTable xs w i j ↔ ((k : ℕ) × (c.args.bounds.least ≤ c.args.bounds.least - 1 + k) × IsAtMost (c.args.bounds.least - 1 + k) None × Chain (Link c.args.links.now c.args.shape.width c.args.shape.last) k i j)) (sym e)
    (some_unlimited L c.leave.new.table items w c.args.shape.last c.args.bounds.least c.args.bounds.most i j p some c.args.bounds.order (c.in_ok-rows.ensures.unlimited is i j p q) left)
