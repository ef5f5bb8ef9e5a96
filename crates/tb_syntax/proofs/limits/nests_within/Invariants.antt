use Rattle.std.proofs.Common.{◌≡◌, ◌≤◌, ◌+◌, drop}
use Rattle.tb_syntax.proofs.Nesting.{walk}
use Rattle.tb_syntax.proofs.limits.nests_within.Given as goal

abbrev pub invariant-loop-i : goal.invariant-loop-i
invariant-loop-i l = record {
  goes : walk l.most l.lexemes ≡ walk l.room (drop l.i l.lexemes);
  bound : l.room ≤ l.most + l.i;
}
