use Rattle.std.proofs.Common.{◌≡◌, ◌+◌, ◌*◌, ◌≤◌, ◌-◌, ℕ, length, ◌↔◌}
use Rattle.tb_match.specs.Bits.{InRow, InTable, Within}
use Rattle.tb_match.proofs.bounded.limit_row.Given as goal

abbrev pub invariant-loop-turn : goal.invariant-loop-turn
invariant-loop-turn l = record {
  row : length l.row ≡ l.shape.width;
  before : length l.before ≡ l.shape.width;
  done : length l.done ≡ l.shape.width;
  reached : (j : ℕ) → j ≤ l.shape.last → (InRow l.row 0 j ↔ Within l.links l.shape.width l.shape.last l.turn l.place j);
  followed : (k j : ℕ) → k ≤ l.shape.last → j ≤ l.shape.last → InRow l.done 0 k → InTable l.links l.shape.width k j → InRow l.row 0 j;
  more : l.initial.steps ≤ l.steps;
  bound : l.steps ≤ l.initial.steps + l.turn * (l.shape.last + 1 - l.place);
}
