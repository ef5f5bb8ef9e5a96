use Rattle.std.proofs.Common.{◌≡◌, ℕ, ◌<◌, false}
use Rattle.tb_words.specs.LineFaults.{holds_wrong_space}
use Rattle.tb_words.proofs.codes.spaced_column.Given as goal

abbrev pub invariant-loop-column : goal.invariant-loop-column
invariant-loop-column l = (k : ℕ) → k < l.column → holds_wrong_space l.line k ≡ false
