use Rattle.std.proofs.Common.{◌≡◌, map, drop}
use Rattle.tb_query.specs.PreparedExprs.{asked}
use Rattle.tb_query.specs.Meaning.{all_hold, some_hold}
use Rattle.tb_syntax.specs.Tests.{tests}
use Rattle.tb_query.proofs.prepared.+holds.Given as goal

abbrev pub invariant-all_hold-loop-prepared_expr : goal.invariant-all_hold-loop-prepared_expr
invariant-all_hold-loop-prepared_expr g l = record {
  ahead : goal.unvisited-all_hold-loop-prepared_expr g l;
  same : map asked l.prepared_exprs ≡ map asked l.fn.prepared_exprs;
  rest : all_hold (tests (map asked l.fn.prepared_exprs)) l.row ≡ all_hold (tests (drop l.prepared_expr-index (map asked l.fn.prepared_exprs))) l.row;
}

abbrev pub invariant-some_hold-loop-prepared_expr : goal.invariant-some_hold-loop-prepared_expr
invariant-some_hold-loop-prepared_expr g l = record {
  ahead : goal.unvisited-some_hold-loop-prepared_expr g l;
  same : map asked l.prepared_exprs ≡ map asked l.fn.prepared_exprs;
  rest : some_hold (tests (map asked l.fn.prepared_exprs)) l.row ≡ some_hold (tests (drop l.prepared_expr-index (map asked l.fn.prepared_exprs))) l.row;
}
