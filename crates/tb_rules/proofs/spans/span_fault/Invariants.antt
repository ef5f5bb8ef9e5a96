use Rattle.std.proofs.Common.{◌≤◌}
use Rattle.tb_rules.proofs.Counts.{HasPassed}
use Rattle.tb_rules.proofs.spans.span_fault.Given as goal

abbrev pub invariant-loop-i : goal.invariant-loop-i
invariant-loop-i g l = record {
  passed : HasPassed l.words l.rows l.i l.before l.end;
  few : l.before ≤ l.i;
}
