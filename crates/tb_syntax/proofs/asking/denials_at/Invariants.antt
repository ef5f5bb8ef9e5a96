use Rattle.std.proofs.Common.{List, length, ◌+◌, ◌≤◌}
use Rattle.tb_syntax.specs.declared.expr.Literal.{Literal}
use Rattle.tb_syntax.specs.declared.lexeme.Lexeme.{Lexeme}
use Rattle.tb_syntax.specs.Parsing.{ReadsUnit}
use Rattle.tb_syntax.specs.Tests.{Test, denied_times}
use Rattle.tb_syntax.proofs.asking.denials_at.Given as goal

abbrev pub invariant-loop-rest : goal.invariant-loop-rest
invariant-loop-rest l = record {
  all : l.times + length l.rest ≤ length l.lexemes;
  exact : (t : Test Literal) (end : List Lexeme) → ReadsUnit l.rest t end → ReadsUnit l.lexemes (denied_times l.times t) end;
}

abbrev pub decreases-loop-rest : goal.decreases-loop-rest
decreases-loop-rest l = length l.rest
