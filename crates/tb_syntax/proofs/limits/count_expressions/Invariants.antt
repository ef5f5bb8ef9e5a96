use Rattle.std.proofs.Common.{◌≡◌, ◌≤◌, ◌+◌, drop, false}
use Rattle.tb_syntax.proofs.Counting.{tally}
use Rattle.tb_syntax.proofs.limits.count_expressions.Given as goal

abbrev pub invariant-loop-i : goal.invariant-loop-i
invariant-loop-i l = record {
  counted : l.count + tally l.inside (drop l.i l.lexemes) ≡ tally false l.lexemes;
  bound : l.count ≤ l.i;
}
