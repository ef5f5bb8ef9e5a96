use Rattle.std.proofs.Common.{◌≡◌, ◌+◌, ◌<◌, ◌≤◌, ◌⊎◌, ◌↔◌, ℕ, ◌∷◌, [], ◌++◌, arith, sym, ap, ◌∙◌, subst, inr, Vec, Global}
use Rattle.std.specs.List.{AllPairs, Contains}
use Rattle.tb_match.specs.declared.strategy.Strategy.TheVariants.{Longest}
use Rattle.tb_match.specs.Bits.{Forward}
use Rattle.tb_match.specs.Hits.{ComesBefore, IsHit}
use Rattle.tb_match.proofs.Filters.{longest_ends, longest_ascending, longest_hits, longest_none, longest_still, longest_from}
use Rattle.tb_match.proofs.hits.longest.Goals as goal
use Rattle.tb_match.proofs.hits.longest.Goals.{then-reached-end+in_ok-push, else-reached-end}

pub loop-place-preserved : goal.loop-place-preserved
loop-place-preserved c =
    let R = Forward c.args.table.now c.args.shape.width c.args.shape.last in
    let place = c.loop-place.place in
    let end = c.furthest_end-end.result in
    let reached = c.loop-place.reached in
    let xs = c.loop-place.hits.items in
    let inv = c.loop-place.invariant in
    let forward : (i j : ℕ) → Forward c.args.table.now c.args.shape.width c.args.shape.last i j → i < j = λ i j r. r.0 in
    let far = c.furthest_end-end.ensures.greatest in
    elim c.if-reached-end.branch [
      | then-reached-end+in_ok-push w ↦
          let there : R place end = c.furthest_end-end.ensures.there (omega arith) in
          let beyond : reached < end = w.if-reached-end.true in
          let made : c.if-reached-end.hits.items ≡ xs ++ (place, end) ∷ [] = ap (λ (v : Vec (ℕ × ℕ) Global). v.items) w.hits-is ∙ w.in_ok-push.ensures.items in
          record {
            ends = λ k j h r. subst (λ x. j ≤ x) (sym w.reached-is) (longest_ends R place reached end xs forward inv.ends inv.from inv.ascending inv.hits far there beyond k j h r);
            from = inr (place, omega arith, subst (λ x. R place x) (sym w.reached-is) there);
            ascending = subst (AllPairs ComesBefore) (sym made) (longest_ascending R place reached end xs forward inv.ends inv.from inv.ascending inv.hits far there beyond);
            hits = λ i j. subst (λ ys. Contains ys (i, j) ↔ ((i < place + 1) × IsHit Longest R i j)) (sym made)
                (longest_hits R place reached end xs forward inv.ends inv.from inv.ascending inv.hits far there beyond i j);
          }
      | else-reached-end w ↦
          let within : end ≤ reached = w.if-reached-end.false in
          let kept : c.if-reached-end.hits.items ≡ xs = ap (λ (v : Vec (ℕ × ℕ) Global). v.items) w.hits-is in
          record {
            ends = λ k j h r. subst (λ x. j ≤ x) (sym w.reached-is) (longest_still R place reached end xs forward inv.ends inv.from inv.ascending inv.hits far within k j h r);
            from = subst (λ x. (x ≡ 0) ⊎ ((k : ℕ) × (k < place + 1) × R k x)) (sym w.reached-is) (longest_from R place reached end xs forward inv.ends inv.from inv.ascending inv.hits far within);
            ascending = subst (AllPairs ComesBefore) (sym kept) inv.ascending;
            hits = λ i j. subst (λ ys. Contains ys (i, j) ↔ ((i < place + 1) × IsHit Longest R i j)) (sym kept)
                (longest_none R place reached end xs forward inv.ends inv.from inv.ascending inv.hits far within i j);
          }
    ]

pub returns : goal.returns
returns c =
    let inv = c.loop-place.invariant in (
      inv.ascending,
      λ i j. (
        λ h. ((inv.hits i j).0 h).1,
        λ hit. let a : i < j = hit.0.0 in let b : j ≤ c.args.shape.last = hit.0.1 in (inv.hits i j).1 (omega arith, hit),
      ),
    )
