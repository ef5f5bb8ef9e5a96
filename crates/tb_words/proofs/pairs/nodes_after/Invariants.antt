use Rattle.std.proofs.Common.{◌+◌, ◌<◌, ◌^◌, ◌≤◌, length}
use Rattle.tb_rules.specs.Ids.{is_in_place}
use Rattle.tb_rules.specs.Rows.{EachRowPasses}
use Rattle.tb_words.proofs.NodeCounts.{HasNodes}
use Rattle.tb_words.proofs.pairs.nodes_after.Given as goal

abbrev pub invariant-loop-row : goal.invariant-loop-row
invariant-loop-row l =
    (length l.rows + 1 < 2 ^ 32 → EachRowPasses is_in_place l.rows → HasNodes l.rows l.row-index l.counts.items l.count)
    × (l.count ≤ l.row-index)
