use Rattle.std.proofs.Common.{ℕ, ◌<◌, length}
use Rattle.tb_words.specs.LineFaults.{IsComposed}
use Rattle.tb_words.proofs.codes.uncomposed_field.Given as goal

abbrev pub invariant-loop-column : goal.invariant-loop-column
invariant-loop-column l = (k : ℕ) → k < length l.yielded → IsComposed l.line k
