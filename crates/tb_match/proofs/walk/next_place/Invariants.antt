use Rattle.std.proofs.Common.{◌≤◌, ◌<◌, ◌*◌, ℕ}
use Rattle.tb_match.specs.Bits.{InRow}
use Rattle.tb_match.proofs.walk.next_place.Given as goal

abbrev pub invariant-loop-word : goal.invariant-loop-word
invariant-loop-word l = (j : ℕ) → l.from ≤ j → j < l.word * 64 → InRow l.cells l.at j → ⊥
