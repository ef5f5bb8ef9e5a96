use Rattle.std.proofs.Common.{◌<◌, ℕ}
use Rattle.tb_match.specs.Bits.{InTable}
use Rattle.tb_match.proofs.relation.all_stay.Given as goal

abbrev pub invariant-loop-place : goal.invariant-loop-place
invariant-loop-place l = record {
  stay : (i : ℕ) → i < l.place → InTable l.links l.shape.width i i;
}
