use Rattle.std.proofs.Common.{ℕ, ◌≡◌, ◌≤◌, ◌<◌, ◌⊎◌, ◌↔◌}
use Rattle.std.specs.List.{AllPairs, Contains}
use Rattle.tb_match.specs.declared.strategy.Strategy.TheVariants.{Longest}
use Rattle.tb_match.specs.Bits.{Forward}
use Rattle.tb_match.specs.Hits.{ComesBefore, IsHit}
use Rattle.tb_match.proofs.hits.longest.Given as goal

abbrev pub invariant-loop-place : goal.invariant-loop-place
invariant-loop-place l = record {
  ends : (k j : ℕ) → k < l.place → Forward l.table l.shape.width l.shape.last k j → j ≤ l.reached;
  from : (l.reached ≡ 0) ⊎ ((k : ℕ) × (k < l.place) × Forward l.table l.shape.width l.shape.last k l.reached);
  ascending : AllPairs ComesBefore l.hits.items;
  hits : (i j : ℕ) → (Contains l.hits.items (i, j) ↔ ((i < l.place) × IsHit Longest (Forward l.table l.shape.width l.shape.last) i j));
}
