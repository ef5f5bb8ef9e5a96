use Rattle.std.proofs.Common.{◌≡◌, ◌+◌, ◌<◌, ◌≤◌, ℕ, length, ◌↔◌, ◌⊎◌}
use Rattle.tb_match.specs.Bits.{InTable}
use Rattle.tb_match.proofs.table.merge.Given as goal

abbrev pub invariant-loop-place : goal.invariant-loop-place
invariant-loop-place l = record {
  whole : length l.table ≡ length l.initial.table;
  done : (i j : ℕ) → i < l.place → j ≤ l.shape.last → (InTable l.table l.shape.width i j ↔ (InTable l.initial.table l.shape.width i j ⊎ InTable l.other l.shape.width i j));
  rest : (i j : ℕ) → l.place ≤ i → j ≤ l.shape.last → (InTable l.table l.shape.width i j ↔ InTable l.initial.table l.shape.width i j);
  more : l.initial.steps ≤ l.steps;
  bound : l.steps ≡ l.initial.steps + l.place;
}
