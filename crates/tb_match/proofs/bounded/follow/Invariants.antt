use Rattle.std.proofs.Common.{◌≡◌, ◌+◌, ◌<◌, ◌≤◌, ◌-◌, ℕ, length, ◌⊎◌}
use Rattle.tb_match.specs.Bits.{InRow, InTable}
use Rattle.tb_match.proofs.bounded.follow.Given as goal

abbrev pub invariant-loop-place : goal.invariant-loop-place
invariant-loop-place l = record {
  from : l.first ≤ l.place;
  upto : l.place ≤ l.shape.last + 1;
  wide : length l.row ≡ l.shape.width;
  only : (j : ℕ) → j ≤ l.shape.last → InRow l.row 0 j → (InRow l.initial.row 0 j ⊎ ((k : ℕ) × (k ≤ l.shape.last) × InRow l.before 0 k × InTable l.links l.shape.width k j));
  kept : (j : ℕ) → j ≤ l.shape.last → InRow l.initial.row 0 j → InRow l.row 0 j;
  followed : (k j : ℕ) → l.first ≤ k → k < l.place → j ≤ l.shape.last → InRow l.before 0 k → InTable l.links l.shape.width k j → (InRow l.done 0 k ⊎ InRow l.row 0 j);
  next : l.place ≤ l.shape.last → InRow l.before 0 l.place;
  more : l.initial.steps ≤ l.steps;
  bound : l.steps ≤ l.initial.steps + (l.place - l.first);
}

abbrev pub decreases-loop-place : goal.decreases-loop-place
decreases-loop-place l = l.shape.last + 1 - l.place
