use Rattle.std.proofs.Common.{◌≡◌, ◌+◌, ◌*◌, ◌<◌, ◌≤◌, ◌-◌, ℕ, length, ◌↔◌, IsTrue}
use Rattle.tb_match.specs.Bits.{InTable, Within, triangle}
use Rattle.tb_match.proofs.bounded.limit.Given as goal

abbrev pub invariant-loop-place : goal.invariant-loop-place
invariant-loop-place l = record {
  spare : length l.spare ≡ l.shape.width;
  before : length l.before ≡ l.shape.width;
  done : length l.done ≡ l.shape.width;
  whole : length l.table ≡ length l.initial.table;
  rows : (i j : ℕ) → i < l.place → j ≤ l.shape.last → (InTable l.table l.shape.width i j ↔ Within l.links l.shape.width l.shape.last l.times i j);
  rest : (i j : ℕ) → l.place ≤ i → j ≤ l.shape.last → (InTable l.table l.shape.width i j ↔ InTable l.initial.table l.shape.width i j);
  same : IsTrue l.same → (i j : ℕ) → i < l.place → j ≤ l.shape.last → (InTable l.table l.shape.width i j ↔ InTable l.initial.table l.shape.width i j);
  more : l.initial.steps ≤ l.steps;
  bound : l.steps + l.times * triangle (l.shape.last + 1 - l.place) ≤ l.initial.steps + l.times * triangle (l.shape.last + 1);
}
