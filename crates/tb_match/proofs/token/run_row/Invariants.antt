use Rattle.std.proofs.Common.{◌≡◌, ◌+◌, ◌*◌, ◌<◌, ◌≤◌, ◌≢◌, ℕ, length, ◌-◌}
use Rattle.tb_match.specs.Bits.{InTable}
use Rattle.tb_match.specs.Hits.{IsWord}
use Rattle.tb_match.proofs.Runs.{Run}
use Rattle.tb_match.proofs.token.run_row.Given as goal

abbrev pub invariant-loop-place : goal.invariant-loop-place
invariant-loop-place l = record {
  whole : length l.table ≡ (l.shape.last + 1) * l.shape.width;
  upto : l.place ≤ l.shape.last + 1;
  there : l.place ≤ l.shape.last → InTable l.table l.shape.width l.row l.place;
  kept : (i j : ℕ) → j ≤ l.shape.last → InTable l.initial.table l.shape.width i j → InTable l.table l.shape.width i j;
  others : (i j : ℕ) → i ≢ l.row → j ≤ l.shape.last → InTable l.table l.shape.width i j → InTable l.initial.table l.shape.width i j;
  sound : (j : ℕ) → j ≤ l.shape.last → InTable l.table l.shape.width l.row j → Run l.initial.table l.shape.width l.row l.shape.last l.truth l.expr j;
  closed : (m j : ℕ) → m < l.place → m ≤ l.shape.last → IsWord l.truth l.expr m j → InTable l.table l.shape.width l.row m → InTable l.table l.shape.width l.row j;
}

abbrev pub decreases-loop-place : goal.decreases-loop-place
decreases-loop-place l = l.shape.last + 1 - l.place
