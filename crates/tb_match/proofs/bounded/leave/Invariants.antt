use Rattle.std.proofs.Common.{◌≡◌, ◌<◌, ◌≤◌, ◌≢◌, ℕ, length, ◌↔◌, ◌⊎◌}
use Rattle.tb_match.specs.Bits.{InTable}
use Rattle.tb_match.proofs.bounded.leave.Given as goal

abbrev pub invariant-loop-place : goal.invariant-loop-place
invariant-loop-place l = record {
  whole : length l.table ≡ length l.initial.table;
  rows : (i j : ℕ) → i < l.place → j ≤ l.shape.last → (InTable l.table l.shape.width i j ↔ (InTable l.initial.table l.shape.width i j × ((j ≢ i) ⊎ InTable l.links l.shape.width i i)));
  rest : (i j : ℕ) → l.place ≤ i → j ≤ l.shape.last → (InTable l.table l.shape.width i j ↔ InTable l.initial.table l.shape.width i j);
}
