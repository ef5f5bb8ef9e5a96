use Rattle.std.proofs.Common.{◌≡◌, ◌<◌, ◌≤◌, length, slice_index, ℕ}
use Rattle.tb_words.proofs.spelling.same_bytes.Given as goal

abbrev pub invariant-loop-at : goal.invariant-loop-at
invariant-loop-at l = (l.at ≤ length l.second) × ((k : ℕ) → k < l.at → slice_index l.first k ≡ slice_index l.second k)
