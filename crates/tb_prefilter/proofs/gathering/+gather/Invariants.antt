use Rattle.std.proofs.Common.{map}
use Rattle.tb_syntax.specs.Exprs.{test}
use Rattle.tb_syntax.specs.Tests.{Test, both, tests}
use Rattle.tb_literal.specs.Literals.{PlainLit}
use Rattle.tb_query.specs.Search.{Asked}
use Rattle.tb_prefilter.specs.Needed.{AreNeeded, Entails, IsPartOf}
use Rattle.tb_prefilter.proofs.gathering.+gather.Given as goal

abbrev pub invariant-gather_all-loop-expr : goal.invariant-gather_all-loop-expr
invariant-gather_all-loop-expr l =
    (q : Asked) (t : Test PlainLit) → Entails t (both (tests (map test l.exprs))) → IsPartOf t q → AreNeeded q l.fn.needles.items → AreNeeded q l.needles.items
