use Rattle.tb_rules.specs.Rows.{FirstRowsPass}
use Rattle.tb_rules.specs.Places.{place_test}
use Rattle.tb_rules.proofs.deps.first_fault.Given as goal

abbrev pub invariant-loop-i : goal.invariant-loop-i
invariant-loop-i g l = FirstRowsPass (place_test l.heads.rows.now) l.heads.rows.now l.i
