use Rattle.std.proofs.Common.{◌≡◌, ◌+◌, ◌≤◌, ◌<◌, ◌-◌, ℕ, length, ◌↔◌, ◌⊎◌}
use Rattle.tb_match.specs.Bits.{InRow, InTable, Link, Through, HasRowsOf}
use Rattle.tb_match.proofs.table.gather_closed.Given as goal

abbrev pub invariant-loop-place : goal.invariant-loop-place
invariant-loop-place l = record {
  from : l.first ≤ l.place;
  upto : l.place ≤ l.shape.last + 1;
  wide : length l.spare ≡ l.shape.width;
  here : (j : ℕ) → j ≤ l.shape.last → (InRow l.spare 0 j ↔ (InRow l.initial.spare 0 j ⊎ Through l.links l.table l.shape.width l.first l.place j));
  link : l.place ≤ l.shape.last → InTable l.links l.shape.width l.first l.place;
  whole : HasRowsOf l.spare l.table l.shape.width l.shape.last;
  counted : (j : ℕ) → Link l.links l.shape.width l.shape.last l.first j → j < l.place → (InRow l.initial.spare 0 j ⊎ (l.initial.steps < l.steps));
  more : l.initial.steps ≤ l.steps;
  bound : l.steps ≤ l.initial.steps + (l.place - l.first);
}

abbrev pub decreases-loop-place : goal.decreases-loop-place
decreases-loop-place l = l.shape.last + 1 - l.place
