use Rattle.std.proofs.Common.{◌≡◌, ◌<◌, ◌↔◌, ℕ}
use Rattle.std.specs.Int.{bit_at}
use Rattle.tb_match.specs.Facts.{Holds}
use Rattle.tb_match.proofs.narrow.ends_of.Given as goal

abbrev pub invariant-loop-word : goal.invariant-loop-word
invariant-loop-word l = (j : ℕ) → ((bit_at l.ends j ≡ 1) ↔ ((j < l.word) × Holds l.truth l.expr j))
