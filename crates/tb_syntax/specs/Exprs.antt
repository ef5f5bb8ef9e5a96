-- Token expressions as plain data.
use Rattle.tb_syntax.specs.declared.expr.Expr.{Expr}
use Rattle.tb_syntax.specs.declared.expr.Expr.TheOpen.{Expr-F}
use Rattle.tb_syntax.specs.declared.expr.Expr.TheFolds.{fold-Expr}
use Rattle.tb_syntax.specs.Tests.{Test, every, whole, feature, denied_times, both, either, tests}

abbrev pub test_step : {L : Type 0} → Expr-F L (Test L) → Test L
test_step Expr-F.Any = every
test_step (Expr-F.Whole a l) = whole a l
test_step (Expr-F.Item l) = feature l
test_step (Expr-F.Denied n e) = denied_times n e.value
test_step (Expr-F.Both es) = both (tests es.items)
test_step (Expr-F.Either es) = either (tests es.items)

abbrev pub test : {L : Type 0} → Expr L → Test L
test {L} = fold-Expr L (Test L) test_step
