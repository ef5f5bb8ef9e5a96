use Rattle.std.proofs.Common.{◌<◌, ◌≤◌, ℕ}
use Rattle.tb_words.specs.Spelled.{MayCut}
use Rattle.tb_words.proofs.spelling.cut_before.Given as goal

abbrev pub invariant-loop-at : goal.invariant-loop-at
invariant-loop-at l = (l.at ≤ l.from) × ((k : ℕ) → l.at < k → k ≤ l.from → MayCut l.first l.second k → ⊥)

abbrev pub decreases-loop-at : goal.decreases-loop-at
decreases-loop-at l = l.at
