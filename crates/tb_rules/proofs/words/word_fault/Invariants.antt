use Rattle.tb_rules.specs.Rows.{FirstRowsPass}
use Rattle.tb_rules.specs.Words.{word_test}
use Rattle.tb_rules.proofs.words.word_fault.Given as goal

abbrev pub invariant-loop-i : goal.invariant-loop-i
invariant-loop-i g l = FirstRowsPass (word_test l.words) l.rows l.i
