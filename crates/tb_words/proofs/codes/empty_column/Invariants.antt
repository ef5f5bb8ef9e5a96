use Rattle.std.proofs.Common.{◌≡◌, ℕ, ◌<◌, false}
use Rattle.tb_words.specs.LineFaults.{is_empty_field}
use Rattle.tb_words.proofs.codes.empty_column.Given as goal

abbrev pub invariant-loop-column : goal.invariant-loop-column
invariant-loop-column l = (k : ℕ) → k < l.column → is_empty_field l.line k ≡ false
