use Rattle.tb_rules.specs.Rows.{FirstRowsPass}
use Rattle.tb_rules.specs.Feats.{feature_test}
use Rattle.tb_rules.proofs.feats.feature_fault.Given as goal

abbrev pub invariant-loop-i : goal.invariant-loop-i
invariant-loop-i g l = FirstRowsPass feature_test l.rows l.i
