use Rattle.std.proofs.Common.{◌≡◌, ◌+◌, ◌<◌, ◌≤◌, ◌-◌, ℕ, length, ◌↔◌}
use Rattle.tb_match.specs.Bits.{InTable, IsCounted, Through, triangle}
use Rattle.tb_match.proofs.doubling.square.Given as goal

abbrev pub invariant-loop-place : goal.invariant-loop-place
invariant-loop-place l = record {
  wide : length l.spare ≡ l.shape.width;
  whole : length l.links ≡ length l.initial.links;
  done : (i j : ℕ) → i < l.place → j ≤ l.shape.last → (InTable l.links l.shape.width i j ↔ Through l.initial.links l.initial.links l.shape.width i (l.shape.last + 1) j);
  rest : (i j : ℕ) → l.place ≤ i → j ≤ l.shape.last → (InTable l.links l.shape.width i j ↔ InTable l.initial.links l.shape.width i j);
  counted : (i : ℕ) → i < l.place → IsCounted l.initial.links l.shape.width l.shape.last i l.initial.steps l.steps;
  more : l.initial.steps ≤ l.steps;
  bound : l.steps + triangle (l.shape.last + 1 - l.place) ≤ l.initial.steps + triangle (l.shape.last + 1);
}
