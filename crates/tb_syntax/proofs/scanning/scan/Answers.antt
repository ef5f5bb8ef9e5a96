use Rattle.std.proofs.Common.{sym, ◌∙◌, arith}
use Rattle.tb_syntax.proofs.Beginnings.{begins, begins_none}
use Rattle.tb_syntax.proofs.ScanLemmas.{one_more, whole, begins_all, not_past, ends_well, ends_badly}
use Rattle.tb_syntax.proofs.scanning.scan.Goals as goal

pub loop-i-preserved : goal.loop-i-preserved
loop-i-preserved c = record {
  goes = one_more c.args.lexemes.now c.loop-i.i c.loop-i.place _ _ c.loop-i-test.true c.loop-i.invariant.goes (sym c.in-Some.ensures.value);
  outer = omega (arith, c.in-Some.ensures.outer);
  inner = omega (arith, c.in-Some.ensures.inner);
}

pub returns-in_default-clause-outside : goal.returns-in_default-clause-outside
returns-in_default-clause-outside c =
    not_past c.args.lexemes.now _
    (one_more c.args.lexemes.now c.loop-i.i c.loop-i.place _ _ c.loop-i-test.true c.loop-i.invariant.goes (sym c.in_default.ensures.value))

pub returns-in_default-clause-begins : goal.returns-in_default-clause-begins
returns-in_default-clause-begins c = begins _ c.loop-i.place c.loop-i.invariant.goes

pub returns-in_default-clause-stray : goal.returns-in_default-clause-stray
returns-in_default-clause-stray c lt =
    begins_none _
    (one_more c.args.lexemes.now c.loop-i.i c.loop-i.place _ _ c.loop-i-test.true c.loop-i.invariant.goes (sym c.in_default.ensures.value))

pub returns-then-may_end-clause-query : goal.returns-then-may_end-clause-query
returns-then-may_end-clause-query c =
    ends_well c.args.lexemes.now c.loop-i.place (whole _ c.loop-i.i _ c.loop-i-test.false c.loop-i.invariant.goes) (sym c.may_end.ensures ∙ c.if-may_end.true)

pub returns-else-may_end-clause-outside : goal.returns-else-may_end-clause-outside
returns-else-may_end-clause-outside c =
    ends_badly c.args.lexemes.now c.loop-i.place (whole _ c.loop-i.i _ c.loop-i-test.false c.loop-i.invariant.goes) (sym c.may_end.ensures ∙ c.if-may_end.false)

pub returns-else-may_end-clause-begins : goal.returns-else-may_end-clause-begins
returns-else-may_end-clause-begins c =
    begins_all c.args.lexemes.now c.loop-i.place (whole _ c.loop-i.i _ c.loop-i-test.false c.loop-i.invariant.goes)
