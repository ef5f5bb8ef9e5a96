use Rattle.std.proofs.Common.{◌≡◌, ◌+◌, ◌*◌, ◌<◌, ◌≤◌, ◌↔◌, ℕ, length}
use Rattle.tb_match.specs.Bits.{InTable}
use Rattle.tb_match.specs.Stays.{MayStay}
use Rattle.tb_match.proofs.Runs.{Stepped}
use Rattle.tb_match.proofs.token.walk_over.Given as goal

abbrev pub invariant-loop-row : goal.invariant-loop-row
invariant-loop-row l = record {
  whole : length l.next.items ≡ (l.shape.last + 1) * l.shape.width;
  done : (i j : ℕ) → i < l.row → j ≤ l.shape.last → (InTable l.next.items l.shape.width i j ↔ Stepped l.table l.shape.width i (MayStay l.stay) l.truth l.expr (l.shape.last + 1) j);
  rest : (i j : ℕ) → l.row ≤ i → j ≤ l.shape.last → InTable l.next.items l.shape.width i j → ⊥;
}
