use Rattle.std.proofs.Common.{◌≡◌, ◌+◌, ◌*◌, ◌<◌, ◌≤◌, ℕ, length, ◌↔◌}
use Rattle.tb_match.specs.Bits.{InTable}
use Rattle.tb_match.proofs.table.diagonal.Given as goal

abbrev pub invariant-loop-place : goal.invariant-loop-place
invariant-loop-place l = record {
  whole : length l.table.items ≡ (l.shape.last + 1) * l.shape.width;
  rows : (i j : ℕ) → j ≤ l.shape.last → (InTable l.table.items l.shape.width i j ↔ ((i < l.place) × (i ≡ j)));
}
