use Rattle.std.proofs.Common.{◌≡◌, ◌+◌, ◌<◌, ◌≤◌, ◌-◌, ◌≢◌, ℕ, length, ◌↔◌}
use Rattle.tb_match.specs.Bits.{InTable, Link, triangle}
use Rattle.tb_match.proofs.Sweeps.{Reaches}
use Rattle.tb_match.proofs.table.close.Given as goal

abbrev pub invariant-loop-place : goal.invariant-loop-place
invariant-loop-place l = record {
  upto : l.place ≤ l.shape.last + 1;
  wide : length l.spare ≡ l.shape.width;
  whole : length l.table ≡ length l.initial.table;
  done : (i j : ℕ) → l.place ≤ i → i ≤ l.shape.last → j ≤ l.shape.last → (InTable l.table l.shape.width i j ↔ Reaches l.links l.shape.width l.shape.last i j);
  empty : (i j : ℕ) → i < l.place → j ≤ l.shape.last → InTable l.table l.shape.width i j → ⊥;
  counted : (i k : ℕ) → l.place ≤ i → Link l.links l.shape.width l.shape.last i k → k ≢ i → l.initial.steps < l.steps;
  more : l.initial.steps ≤ l.steps;
  bound : l.steps ≤ l.initial.steps + triangle (l.shape.last + 1 - l.place);
}
