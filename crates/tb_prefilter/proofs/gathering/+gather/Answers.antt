use Rattle.std.proofs.Common.{subst}
use Rattle.std.proofs.lemmas.Bool.{false≢true}
use Rattle.std.proofs.lemmas.Result.{IfOk-weaker}
use Rattle.tb_prefilter.specs.Needed.{Entails, RequiresNothing}
use Rattle.tb_prefilter.proofs.Gathered.{is_whole, is_item, is_both, entails_part, nothing_in_part}
use Rattle.tb_prefilter.proofs.gathering.+gather.Goals as goal

pub gather-returns-in-Whole-clause-gathered : goal.gather-returns-in-Whole-clause-gathered
gather-returns-in-Whole-clause-gathered t c =
    let shown = is_whole c.args.expr.now c.in-Whole.field-0 c.in-Whole.needle c.in-Whole.is in
    IfOk-weaker c.push_column.result _ _ (λ _ h q u entails. h c.in-Whole.field-0 q u (subst (Entails u) shown entails)) c.push_column.ensures.gathered

pub gather-returns-in-Item-clause-gathered : goal.gather-returns-in-Item-clause-gathered
gather-returns-in-Item-clause-gathered t c =
    let shown = is_item c.args.expr.now c.in-Item.needle c.in-Item.is in
    IfOk-weaker c.push_item.result _ _ (λ _ h q u entails. h q u (subst (Entails u) shown entails)) c.push_item.ensures.gathered

pub gather-returns-in-Both-clause-gathered : goal.gather-returns-in-Both-clause-gathered
gather-returns-in-Both-clause-gathered t c =
    let shown = is_both c.args.expr.now c.in-Both.parts c.deref.result.now c.in-Both.is c.deref.ensures.value in
    IfOk-weaker c.gather_all.result _ _ (λ _ h q u entails. h q u (subst (Entails u) shown entails)) c.gather_all.ensures.gathered

pub gather_all-loop-expr-preserved : goal.gather_all-loop-expr-preserved
gather_all-loop-expr-preserved t c = λ q u entails part old.
    let es = c.args.exprs.now in
    let k = c.loop-expr.expr-index in
    let x = c.expr-item.result in
    c.in_ok-gather.ensures.gathered q u (entails_part es k x u c.loop-expr-test.true c.expr-item.is entails) part (c.loop-expr.invariant q u entails part old)

pub gather-returns-in-Whole-clause-sure : goal.gather-returns-in-Whole-clause-sure
gather-returns-in-Whole-clause-sure t c none = c.push_column.ensures.sure (subst RequiresNothing (is_whole c.args.expr.now c.in-Whole.field-0 c.in-Whole.needle c.in-Whole.is) none)

pub gather-returns-in-Item-clause-sure : goal.gather-returns-in-Item-clause-sure
gather-returns-in-Item-clause-sure t c none = c.push_item.ensures.sure (subst RequiresNothing (is_item c.args.expr.now c.in-Item.needle c.in-Item.is) none)

pub gather-returns-in-Both-clause-sure : goal.gather-returns-in-Both-clause-sure
gather-returns-in-Both-clause-sure t c none = c.gather_all.ensures.sure (subst RequiresNothing (is_both c.args.expr.now c.in-Both.parts c.deref.result.now c.in-Both.is c.deref.ensures.value) none)

pub gather_all-returns-in_err-gather-clause-sure : goal.gather_all-returns-in_err-gather-clause-sure
gather_all-returns-in_err-gather-clause-sure t c none = absurd (false≢true (c.in_err-gather.ensures.sure (nothing_in_part c.args.exprs.now c.loop-expr.expr-index c.expr-item.result c.loop-expr-test.true c.expr-item.is none)))
