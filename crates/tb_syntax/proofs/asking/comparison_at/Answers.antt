use Rattle.std.proofs.Common.{sym, ap, ◌∙◌}
use Rattle.tb_syntax.specs.Tests.{negated}
use Rattle.tb_syntax.proofs.TestLemmas.{contains_read, differs_read, equals_read, same_unit}
use Rattle.tb_syntax.proofs.asking.comparison_at.Goals as goal

pub returns-in-Contains-clause-exact : goal.returns-in-Contains-clause-exact
returns-in-Contains-clause-exact c =
    same_unit _ _ _ _ c.item.ensures
    (contains_read c.args.attr c.args.lexemes.now c.tail.result.now c.literal_at.result.1.now c.literal_at.result.0 (sym c.head.ensures ∙ c.in-Contains.is) c.tail.ensures.rest c.literal_at.ensures.exact)

pub returns-in_ok-denied-in-Differs-clause-exact : goal.returns-in_ok-denied-in-Differs-clause-exact
returns-in_ok-denied-in-Differs-clause-exact c =
    same_unit _ _ _ _ (c.in_ok-denied-in-Differs.ensures.value ∙ ap negated c.whole.ensures)
    (differs_read c.args.attr c.args.lexemes.now c.tail.result.now c.literal_at.result.1.now c.literal_at.result.0 (sym c.head.ensures ∙ c.in-Differs.is) c.tail.ensures.rest c.literal_at.ensures.exact)

pub returns-in_default-clause-exact : goal.returns-in_default-clause-exact
returns-in_default-clause-exact c =
    same_unit _ _ _ _ c.whole-in_default.ensures
    (equals_read c.args.attr c.args.lexemes.now c.tail.result.now c.literal_at.result.1.now c.literal_at.result.0
    (λ h. c.in_default.not-Contains (c.head.ensures ∙ h)) (λ h. c.in_default.not-Differs (c.head.ensures ∙ h)) c.tail.ensures.rest c.literal_at.ensures.exact)

pub returns-in_err-denied-in-Differs-clause-sure : goal.returns-in_err-denied-in-Differs-clause-sure
returns-in_err-denied-in-Differs-clause-sure c other = absurd (other (sym c.head.ensures ∙ c.in-Differs.is))
