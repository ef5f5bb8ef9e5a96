use Rattle.std.proofs.Common.{ℕ, ◌<◌}
use Rattle.tb_match.specs.Facts.{Holds}
use Rattle.tb_match.proofs.truth.Truth.holds_somewhere.Given as goal

abbrev pub invariant-loop-word : goal.invariant-loop-word
invariant-loop-word l = (w : ℕ) → w < l.word → Holds l.self l.expr w → ⊥
