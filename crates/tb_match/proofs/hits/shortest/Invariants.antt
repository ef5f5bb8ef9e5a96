use Rattle.std.proofs.Common.{ℕ, ◌+◌, ◌≤◌, ◌<◌, ◌⊎◌, ◌↔◌, reverse}
use Rattle.std.specs.List.{AllPairs, Contains}
use Rattle.tb_match.specs.declared.strategy.Strategy.TheVariants.{Shortest}
use Rattle.tb_match.specs.Bits.{Forward}
use Rattle.tb_match.specs.Hits.{ComesBefore, IsHit}
use Rattle.tb_match.proofs.hits.shortest.Given as goal

abbrev pub invariant-loop-place : goal.invariant-loop-place
invariant-loop-place l = record {
  upto : l.place ≤ l.shape.last + 1;
  limit : l.soonest ≤ l.shape.last + 1;
  ends : (k j : ℕ) → l.place ≤ k → Forward l.table l.shape.width l.shape.last k j → l.soonest ≤ j;
  from : (l.shape.last < l.soonest) ⊎ ((k : ℕ) × (l.place ≤ k) × Forward l.table l.shape.width l.shape.last k l.soonest);
  ascending : AllPairs ComesBefore (reverse l.hits.items);
  hits : (i j : ℕ) → (Contains (reverse l.hits.items) (i, j) ↔ ((l.place ≤ i) × IsHit Shortest (Forward l.table l.shape.width l.shape.last) i j));
}
