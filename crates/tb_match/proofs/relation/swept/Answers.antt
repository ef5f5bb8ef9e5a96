use Rattle.std.proofs.Common.{arith, ◌≡◌, ◌+◌, ◌-◌, ◌≤◌, ◌↔◌, ℕ, length, sym, subst, ap}
use Rattle.tb_match.specs.Bits.{InTable, IsClosed, IsForward, HasLinksOf, Link, Repeated}
use Rattle.tb_match.specs.Match.{Chain, IsAtMost}
use Rattle.tb_match.proofs.Limits.{chains_closed, chains_linked, chains_forward}
use Rattle.tb_match.proofs.Repeats.{lent, repeated}
use Rattle.tb_match.proofs.relation.swept.Goals as goal

pub repeat-requires-clause-closed : goal.repeat-requires-clause-closed
repeat-requires-clause-closed c = λ is.
    subst (λ xs. IsClosed xs c.args.shape.width 0 c.args.shape.last) (sym c.deref_mut.ensures.value)
    (chains_closed c.args.links.now c.in_ok-rows.field-0.rows.items c.args.shape.width c.args.shape.last (c.args.bounds.least - 1) c.args.bounds.least (omega arith) (c.in_ok-rows.ensures.unlimited is))

pub repeat-requires-clause-linked : goal.repeat-requires-clause-linked
repeat-requires-clause-linked c = λ is.
    subst (λ xs. HasLinksOf xs c.args.links.now c.args.shape.width c.args.shape.last) (sym c.deref_mut.ensures.value)
    (chains_linked c.args.links.now c.in_ok-rows.field-0.rows.items c.args.shape.width c.args.shape.last (c.args.bounds.least - 1) c.args.bounds.least (omega arith) (c.in_ok-rows.ensures.unlimited is))

pub repeat-requires-clause-forward : goal.repeat-requires-clause-forward
repeat-requires-clause-forward c = λ is.
    subst (λ xs. IsForward xs c.args.shape.width c.args.shape.last) (sym c.deref_mut.ensures.value)
    (chains_forward c.args.links.now c.in_ok-rows.field-0.rows.items c.args.shape.width c.args.shape.last (c.args.bounds.least - 1) c.args.bounds.least (omega arith) (c.in_ok-rows.ensures.unlimited is))

pub repeat-requires-clause-chains : goal.repeat-requires-clause-chains
repeat-requires-clause-chains c = λ is two i j p q.
    let w = c.args.shape.width in
    let last = c.args.shape.last in
    let times : c.saturating_sub-times.result ≤ c.args.bounds.least - 1 = omega (arith, c.saturating_sub-times.ensures) in
    let rows = c.in_ok-rows.ensures.unlimited is i j p q in
    subst (λ xs. InTable xs w i j ↔ ((k : ℕ) × (1 ≤ k) × Chain (Link c.args.links.now w last) k i j)) (sym c.deref_mut.ensures.value) (
      λ h. let r = rows.0 h in let enough : c.args.bounds.least ≤ c.args.bounds.least - 1 + r.0 = r.1 in (r.0, omega arith, r.3),
      λ (k, some, chain). rows.1 (k, omega arith, tt, chain),
    )

pub returns-clause-rows : goal.returns-clause-rows
returns-clause-rows c = λ i j p q.
    let a = c.args.bounds.least in
    let times : c.saturating_sub-times.result ≡ c.args.bounds.least - 1 = c.saturating_sub-times.ensures in
    let v : c.deref_mut.result.now ≡ c.in_ok-rows.field-0.rows.items = c.deref_mut.ensures.value in
    let r = subst (λ xs. InTable c.repeat.new.table c.args.shape.width i j ↔ Repeated c.args.links.now xs c.args.shape.width c.args.shape.last c.saturating_sub-times.result i j) v (c.repeat.ensures.rows i j p q) in
    let t = subst (λ n. InTable c.repeat.new.table c.args.shape.width i j ↔ Repeated c.args.links.now c.in_ok-rows.field-0.rows.items c.args.shape.width c.args.shape.last n i j) times r in
    let s = repeated c.args.links.now c.in_ok-rows.field-0.rows.items c.args.shape.width c.args.shape.last (a - 1) a c.args.bounds.most (omega arith) c.in_ok-rows.ensures.rows i j p q in
    let same : length c.deref_mut.result.now ≡ length c.in_ok-rows.field-0.rows.items = ap length v in
    let e = lent c.in_ok-rows.field-0.rows.len c.repeat.new.table c.in_ok-rows.field-0.rows.items (omega (arith, c.in_ok-rows.field-0.rows.ok.0)) in
    subst (λ xs. InTable xs c.args.shape.width i j ↔ ((k : ℕ) × (c.args.bounds.least ≤ k) × IsAtMost k c.args.bounds.most × Chain (Link c.args.links.now c.args.shape.width c.args.shape.last) k i j)) (sym e) (λ h. s.0 (t.0 h), λ h. t.1 (s.1 h))
