use Rattle.std.proofs.Common.{◌≡◌, ◌≤◌, ◌↔◌, ◌⊎◌, ℕ, subst}
use Rattle.std.proofs.lemmas.Result.{IfOk-weaker}
use Rattle.tb_match.specs.Bits.{InTable, Link}
use Rattle.tb_match.specs.Match.{Chain, IsAtMost}
use Rattle.tb_match.proofs.Limits.{lower_least}
use Rattle.tb_match.proofs.relation.repetition.Goals as goal

pub returns-clause-rows : goal.returns-clause-rows
returns-clause-rows c =
    let L = c.args.links.items in
    let w = c.args.shape.width in
    let last = c.args.shape.last in
    let a = c.args.bounds.least in
    let needed = c.least_needed-least.result in
    let lent = c.deref_mut-2.result.now in
    let v : lent ≡ c.args.links.items = c.deref_mut-2.ensures.value in
    let shown : c.deref.result.now ≡ c.args.links.items = c.deref.ensures.value in
    let stay : (needed ≡ a) ⊎ ((i : ℕ) → i ≤ last → InTable L w i i) =
    subst (λ xs. (c.least_needed-least.result ≡ c.args.bounds.least) ⊎ ((i : ℕ) → i ≤ c.args.shape.last → InTable xs c.args.shape.width i i)) shown c.least_needed-least.ensures.unchanged in
    IfOk-weaker c.swept.result _ _ (λ r h i j p q.
    let rows = subst (λ xs. InTable r.items c.args.shape.width i j ↔ ((k : ℕ) × (c.least_needed-least.result ≤ k) × IsAtMost k c.args.bounds.most × Chain (Link xs c.args.shape.width c.args.shape.last) k i j)) v (h i j p q) in
    let lower = lower_least L w last a needed c.args.bounds.most i j c.args.bounds.order c.least_needed-least.ensures.fewer p stay in
    (λ x. lower.0 (rows.0 x), λ x. rows.1 (lower.1 x)))
    c.swept.ensures.rows
