-- Inner: no contract beyond this crate cites a definition of this module.
-- Token expressions that are prepared for a search, as their tests.
use Rattle.tb_query.specs.declared.prepared.PreparedExpr.{PreparedExpr}
use Rattle.tb_query.specs.declared.prepared.PreparedExpr.TheOpen.{PreparedExpr-F}
use Rattle.tb_query.specs.declared.prepared.PreparedExpr.TheFolds.{fold-PreparedExpr}
use Rattle.tb_literal.specs.Literals.{PlainLit}
use Rattle.tb_syntax.specs.Tests.{Test, every, whole, feature, denied_times, both, either, tests}

abbrev pub asked_step : PreparedExpr-F (Test PlainLit) → Test PlainLit
asked_step PreparedExpr-F.Any = every
asked_step (PreparedExpr-F.Whole c) = whole c.attr c.tester
asked_step (PreparedExpr-F.Item l) = feature l
asked_step (PreparedExpr-F.Denied n t) = denied_times n t.value
asked_step (PreparedExpr-F.Both ts) = both (tests ts.items)
asked_step (PreparedExpr-F.Either ts) = either (tests ts.items)

abbrev pub asked : PreparedExpr → Test PlainLit
asked = fold-PreparedExpr (Test PlainLit) asked_step
