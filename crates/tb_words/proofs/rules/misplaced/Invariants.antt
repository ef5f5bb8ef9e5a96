use Rattle.std.proofs.Common.{◌+◌, ◌<◌, ◌^◌, ◌≤◌, length}
use Rattle.tb_rules.proofs.Counts.{HasCome}
use Rattle.tb_words.proofs.rules.misplaced.Given as goal

abbrev pub invariant-loop-at : goal.invariant-loop-at
invariant-loop-at l =
    (length l.rows + 1 < 2 ^ 32 → HasCome l.rows l.at l.words l.nodes) × (l.words ≤ l.at) × (l.nodes ≤ l.at)
