use Rattle.std.proofs.Common.{◌≡◌, ◌<◌, ◌≤◌, ◌↔◌, ℕ, length}
use Rattle.tb_match.specs.Bits.{InTable}
use Rattle.tb_match.proofs.Runs.{Run}
use Rattle.tb_match.proofs.token.run_on.Given as goal

abbrev pub invariant-loop-row : goal.invariant-loop-row
invariant-loop-row l = record {
  whole : length l.table ≡ length l.initial.table;
  done : (i j : ℕ) → i < l.row → j ≤ l.truth.words → (InTable l.table l.shape.width i j ↔ Run l.initial.table l.shape.width i l.truth.words l.truth l.expr j);
  rest : (i j : ℕ) → l.row ≤ i → j ≤ l.truth.words → (InTable l.table l.shape.width i j ↔ InTable l.initial.table l.shape.width i j);
}
