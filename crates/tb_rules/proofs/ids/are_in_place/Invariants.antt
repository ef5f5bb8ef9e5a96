use Rattle.std.proofs.Common.{◌≤◌}
use Rattle.tb_rules.proofs.Counts.{HasCome}
use Rattle.tb_rules.proofs.ids.are_in_place.Given as goal

abbrev pub invariant-loop-row : goal.invariant-loop-row
invariant-loop-row g l = record {
  came : HasCome l.rows l.row-index l.words l.nodes;
  few_words : l.words ≤ l.row-index;
  few_nodes : l.nodes ≤ l.row-index;
}
