use Rattle.std.proofs.Common.{◌≡◌, ◌+◌, ◌^◌, ◌<◌, drop}
use Rattle.tb_replay.specs.Playing.{first_counts}
use Rattle.tb_replay.proofs.allowing.count_words.Given as goal

abbrev pub invariant-loop-entry : goal.invariant-loop-entry
invariant-loop-entry l = (l.sum < 2 ^ 64) × (l.sum + first_counts (drop l.entry-index l.new) ≡ first_counts l.new)
