use Rattle.std.proofs.Common.{◌≡◌, true, sym, subst, ap, ◌∙◌}
use Rattle.std.proofs.lemmas.Bool.{false≢true}
use Rattle.tb_match.specs.Trees.{Tree}
use Rattle.tb_syntax.specs.Exprs.{test}
use Rattle.tb_prefilter.specs.Needed.{AreNeeded, needs}
use Rattle.tb_prefilter.proofs.Needed.{is_needed_by}
use Rattle.tb_prefilter.proofs.Gathered.{test_of}
use Rattle.tb_prefilter.proofs.prefilter.needles_of.Goals.{then-is_needed+in_ok-gather, else-is_needed}
use Rattle.tb_prefilter.proofs.prefilter.needles_of.Goals as goal

pub loop-number-preserved : goal.loop-number-preserved
loop-number-preserved c =
    let q = c.args.query.now in
    let e = c.loop-number.number in
    let x = c.expr-item.result in
    elim c.if-is_needed.branch [
      | then-is_needed+in_ok-gather w ↦
          let needed : needs q.pat e ≡ true = ap (λ (p : Tree). needs p e) (sym c.pat.ensures.pat) ∙ sym c.is_needed.ensures ∙ w.if-is_needed.true in
          let there = test_of c.exprs-expr-items.result.now q.tests e x c.exprs-expr-items.ensures.tests c.loop-number-test.true c.expr-item.is in
          subst (λ v. AreNeeded q v.items) (sym w.needles-is)
          (w.in_ok-gather.ensures.gathered q (test x) (λ r h. h) (λ n required. is_needed_by q e (test x) n there needed required) c.loop-number.invariant)
      | else-is_needed w ↦ subst (λ v. AreNeeded q v.items) (sym w.needles-is) c.loop-number.invariant
    ]

pub returns-in_err-gather-clause-sure : goal.returns-in_err-gather-clause-sure
returns-in_err-gather-clause-sure c = λ none.
    let q = c.args.query.now in
    let e = c.loop-number.number in
    let x = c.expr-item.result in
    let needed : needs q.pat e ≡ true = ap (λ (p : Tree). needs p e) (sym c.pat.ensures.pat) ∙ sym c.is_needed.ensures ∙ c.if-is_needed.true in
    let there = test_of c.exprs-expr-items.result.now q.tests e x c.exprs-expr-items.ensures.tests c.loop-number-test.true c.expr-item.is in
    absurd (false≢true (c.in_err-gather.ensures.sure (none e (test x) needed there)))
