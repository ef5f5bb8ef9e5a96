use Rattle.std.proofs.Common.{◌≡◌, ◌-◌, ◌<◌, ◌≤◌, ◌⊎◌, ◌↔◌, ℕ, ◌∷◌, [], arith, sym, ap, ◌∙◌, subst, inl, inr, ⊎_elim, reverse}
use Rattle.std.specs.List.{AllPairs, Contains}
use Rattle.std.proofs.lemmas.List.{reverse-append}
use Rattle.tb_match.specs.declared.strategy.Strategy.TheVariants.{Shortest}
use Rattle.tb_match.specs.Bits.{Forward}
use Rattle.tb_match.specs.Hits.{ComesBefore, IsHit}
use Rattle.tb_match.proofs.Filters.{shortest_ends, shortest_ascending, shortest_hits, shortest_still, shortest_from, shortest_none}
use Rattle.tb_match.proofs.hits.shortest.Goals as goal

pub loop-place-preserved-then-end-soonest : goal.loop-place-preserved-then-end-soonest
loop-place-preserved-then-end-soonest c =
    let R = Forward c.args.table.now c.args.shape.width c.args.shape.last in
    let last = c.args.shape.last in
    let place = c.loop-place.place - 1 in
    let end = c.least_end-end.result in
    let soonest = c.loop-place.soonest in
    let xs = reverse c.loop-place.hits.items in
    let inv = c.loop-place.invariant in
    let inside : (i j : ℕ) → Forward c.args.table.now c.args.shape.width c.args.shape.last i j → j ≤ c.args.shape.last = λ i j r. r.1 in
    let ends : (k j : ℕ) → place < k → Forward c.args.table.now c.args.shape.width c.args.shape.last k j → soonest ≤ j = λ k j lt r. inv.ends k j (omega arith) r in
    let from : (last < soonest) ⊎ ((k : ℕ) × (place < k) × Forward c.args.table.now c.args.shape.width c.args.shape.last k soonest) =
    ⊎_elim (λ e. inl e) (λ (k, le, r). inr (k, omega arith, r)) inv.from in
    let hits : (i j : ℕ) → Contains xs (i, j) ↔ ((place < i) × IsHit Shortest R i j) =
    λ i j. (λ h. let r = (inv.hits i j).0 h in let le : c.loop-place.place ≤ i = r.0 in (omega arith, r.1), λ (lt, hit). (inv.hits i j).1 (omega arith, hit)) in
    let near = c.least_end-end.ensures.least in
    let before : end < soonest = c.if-end-soonest.true in
    let there : R place end = c.least_end-end.ensures.there (omega arith) in
    let made : reverse c.push.new.self.items ≡ (place, end) ∷ xs = ap reverse c.in_ok-push.ensures.items ∙ reverse-append c.loop-place.hits.items ((place, end) ∷ []) in
    record {
      upto = omega arith;
      limit = omega arith;
      ends = λ k j h r. shortest_ends R place last soonest end xs inside ends from inv.ascending hits near there before k j h r;
      from = inr (place, omega arith, there);
      ascending = subst (AllPairs ComesBefore) (sym made) (shortest_ascending R place last soonest end xs inside ends from inv.ascending hits near there before);
      hits = λ i j. subst (λ ys. Contains ys (i, j) ↔ ((place ≤ i) × IsHit Shortest R i j)) (sym made) (shortest_hits R place last soonest end xs inside ends from inv.ascending hits near there before i j);
    }

pub loop-place-preserved : goal.loop-place-preserved
loop-place-preserved c =
    let R = Forward c.args.table.now c.args.shape.width c.args.shape.last in
    let last = c.args.shape.last in
    let place = c.loop-place.place - 1 in
    let end = c.least_end-end.result in
    let soonest = c.loop-place.soonest in
    let xs = reverse c.loop-place.hits.items in
    let inv = c.loop-place.invariant in
    let inside : (i j : ℕ) → Forward c.args.table.now c.args.shape.width c.args.shape.last i j → j ≤ c.args.shape.last = λ i j r. r.1 in
    let ends : (k j : ℕ) → place < k → Forward c.args.table.now c.args.shape.width c.args.shape.last k j → soonest ≤ j = λ k j lt r. inv.ends k j (omega arith) r in
    let from : (last < soonest) ⊎ ((k : ℕ) × (place < k) × Forward c.args.table.now c.args.shape.width c.args.shape.last k soonest) =
    ⊎_elim (λ e. inl e) (λ (k, le, r). inr (k, omega arith, r)) inv.from in
    let hits : (i j : ℕ) → Contains xs (i, j) ↔ ((place < i) × IsHit Shortest R i j) =
    λ i j. (λ h. let r = (inv.hits i j).0 h in let le : c.loop-place.place ≤ i = r.0 in (omega arith, r.1), λ (lt, hit). (inv.hits i j).1 (omega arith, hit)) in
    let near = c.least_end-end.ensures.least in
    let beyond : soonest ≤ end = c.if-end-soonest.false in
    record {
      upto = omega arith;
      limit = omega arith;
      ends = shortest_still R place last soonest end xs inside ends from inv.ascending hits near beyond;
      from = shortest_from R place last soonest end xs inside ends from inv.ascending hits near beyond;
      ascending = inv.ascending;
      hits = shortest_none R place last soonest end xs inside ends from inv.ascending hits near beyond;
    }

pub returns : goal.returns
returns c =
    let inv = c.loop-place.invariant in
    let turned : c.reverse.new.self.items ≡ reverse c.loop-place.hits.items = c.reverse.ensures.items in (
      subst (AllPairs ComesBefore) (sym turned) inv.ascending,
      λ i j. subst (λ ys. Contains ys (i, j) ↔ IsHit Shortest (Forward c.args.table.now c.args.shape.width c.args.shape.last) i j) (sym turned)
          (λ h. ((inv.hits i j).0 h).1, λ hit. (inv.hits i j).1 (omega arith, hit)),
    )
