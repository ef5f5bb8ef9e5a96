use Rattle.std.proofs.Common.{◌≡◌, map, take}
use Rattle.tb_query.specs.PreparedExprs.{asked}
use Rattle.tb_syntax.specs.Exprs.{test}
use Rattle.tb_query.proofs.prepared.+prepare_expr.Given as goal

abbrev pub invariant-prepare_exprs-loop-expr : goal.invariant-prepare_exprs-loop-expr
invariant-prepare_exprs-loop-expr l = map asked l.prepared_exprs.items ≡ map test (take l.expr-index l.exprs)
