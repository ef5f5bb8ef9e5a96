use Rattle.tb_rules.specs.Rows.{FirstRowsPass}
use Rattle.tb_rules.specs.Nodes.{node_test}
use Rattle.tb_rules.proofs.nodes.node_fault.Given as goal

abbrev pub invariant-loop-i : goal.invariant-loop-i
invariant-loop-i g l = FirstRowsPass node_test l.rows l.i
