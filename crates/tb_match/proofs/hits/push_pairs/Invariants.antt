use Rattle.std.proofs.Common.{ℕ, ◌≡◌, ◌+◌, ◌-◌, ◌<◌, ◌≤◌, ◌⊎◌, ◌↔◌}
use Rattle.std.specs.List.{AllPairs, Contains}
use Rattle.tb_match.specs.Bits.{Forward}
use Rattle.tb_match.specs.Hits.{ComesBefore}
use Rattle.tb_match.proofs.hits.push_pairs.Given as goal

abbrev pub invariant-loop-end : goal.invariant-loop-end
invariant-loop-end l = record {
  upto : l.end ≤ l.shape.last + 1;
  next : l.end ≤ l.shape.last → Forward l.table l.shape.width l.shape.last l.place l.end;
  ascending : AllPairs ComesBefore l.hits.items;
  pairs : (i j : ℕ) → (Contains l.hits.items (i, j) ↔ (Contains l.initial.hits.items (i, j) ⊎ ((i ≡ l.place) × (j < l.end) × Forward l.table l.shape.width l.shape.last l.place j)));
}

abbrev pub decreases-loop-end : goal.decreases-loop-end
decreases-loop-end l = l.shape.last + 1 - l.end
