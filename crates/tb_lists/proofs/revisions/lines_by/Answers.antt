use Rattle.std.proofs.Common.{◌+◌, ◌++◌, sym, ap, ◌∙◌, arith, append-nil}
use Rattle.tb_lists.specs.Made.{lines_by}
use Rattle.tb_lists.specs.Revisions.{is_maker, makers}
use Rattle.tb_lists.proofs.NoMakers.{none_passes}
use Rattle.tb_lists.proofs.Summed.{drop_end}
use Rattle.tb_lists.proofs.revisions.lines_by.Goals as goal

pub returns-clause-lines : goal.returns-clause-lines
returns-clause-lines c =
    let past = drop_end c.args.steps.now c.loop-step.step-index (omega (arith, c.loop-step-test.false)) in
    sym (append-nil c.loop-step.lines.items) ∙ ap (λ l. c.loop-step.lines.items ++ lines_by (c.loop-step.rev + 1) (makers c.args.sentence c.args.batch l)) (sym past) ∙ c.loop-step.invariant.1

pub returns-in_err-line_by-clause-sure : goal.returns-in_err-line_by-clause-sure
returns-in_err-line_by-clause-sure c none = absurd
    (none_passes (is_maker c.args.sentence c.args.batch) c.args.steps.now c.loop-step.step-index c.step-item.result none (omega (arith, c.loop-step-test.true)) c.step-item.is
    (sym c.is_maker.ensures ∙ c.if-is_maker.true))

pub returns-in_err-push-clause-sure : goal.returns-in_err-push-clause-sure
returns-in_err-push-clause-sure c none = absurd
    (none_passes (is_maker c.args.sentence c.args.batch) c.args.steps.now c.loop-step.step-index c.step-item.result none (omega (arith, c.loop-step-test.true)) c.step-item.is
    (sym c.is_maker.ensures ∙ c.if-is_maker.true))
