use Rattle.std.proofs.Common.{◌≡◌, ◌+◌, ℕ, length, take, get_or}
use Rattle.std.specs.List.{count_by}
use Rattle.tb_rules.specs.Ids.{is_node_after}
use Rattle.tb_rules.proofs.heads.counts.Given as goal

abbrev pub invariant-loop-row : goal.invariant-loop-row
invariant-loop-row g l = record {
  room : length l.nodes.items ≡ l.words + 1;
  counted : (i : ℕ) → get_or l.nodes.items i 0 ≡ count_by (is_node_after i) (take l.row-index l.rows);
}
