use Rattle.std.proofs.Common.{◌≡◌, ◌+◌, ◌*◌, ◌<◌, ◌≤◌, ◌↔◌, ◌⊎◌, ℕ, length}
use Rattle.tb_match.specs.Bits.{InTable}
use Rattle.tb_match.specs.Hits.{IsWord}
use Rattle.tb_match.specs.Stays.{MayStay}
use Rattle.tb_match.proofs.token.token_rows.Given as goal

abbrev pub invariant-loop-place : goal.invariant-loop-place
invariant-loop-place l = record {
  whole : length l.table.items ≡ (l.shape.last + 1) * l.shape.width;
  rows : (i j : ℕ) → j ≤ l.shape.last → (InTable l.table.items l.shape.width i j ↔ ((i < l.place) × ((MayStay l.stay × (j ≡ i)) ⊎ IsWord l.truth l.expr i j)));
}
