use Rattle.std.proofs.Common.{◌≡◌, ◌+◌, ◌*◌, ◌≤◌, ◌↔◌, ◌⊎◌, ℕ, length, ◌-◌}
use Rattle.tb_match.specs.Bits.{InTable}
use Rattle.tb_match.specs.Stays.{MayStay}
use Rattle.tb_match.proofs.Runs.{Stepped}
use Rattle.tb_match.proofs.token.step_row.Given as goal

abbrev pub invariant-loop-place : goal.invariant-loop-place
invariant-loop-place l = record {
  whole : length l.next ≡ (l.shape.last + 1) * l.shape.width;
  upto : l.place ≤ l.shape.last + 1;
  there : l.place ≤ l.shape.last → InTable l.table l.shape.width l.row l.place;
  here : (i j : ℕ) → j ≤ l.shape.last → (InTable l.next l.shape.width i j ↔ (InTable l.initial.next l.shape.width i j ⊎ ((i ≡ l.row) × Stepped l.table l.shape.width l.row (MayStay l.stay) l.truth l.expr l.place j)));
}

abbrev pub decreases-loop-place : goal.decreases-loop-place
decreases-loop-place l = l.shape.last + 1 - l.place
