use Rattle.std.proofs.Common.{ℕ, ◌<◌, ◌↔◌}
use Rattle.std.specs.List.{AllPairs, Contains}
use Rattle.tb_match.specs.Bits.{Forward}
use Rattle.tb_match.specs.Hits.{ComesBefore}
use Rattle.tb_match.proofs.hits.every.Given as goal

abbrev pub invariant-loop-place : goal.invariant-loop-place
invariant-loop-place l = record {
  ascending : AllPairs ComesBefore l.hits.items;
  pairs : (i j : ℕ) → (Contains l.hits.items (i, j) ↔ ((i < l.place) × Forward l.table l.shape.width l.shape.last i j));
}
