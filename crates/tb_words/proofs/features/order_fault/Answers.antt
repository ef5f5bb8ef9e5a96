use Rattle.std.proofs.Common.{arith, false, sym, true, ◌∙◌}
use Rattle.tb_words.proofs.FeatureOrder.{placed, rising}
use Rattle.tb_words.proofs.features.order_fault.Goals as goal

pub returns-then-is_before : goal.returns-then-is_before
returns-then-is_before c = λ last_is item_is right within.
    rising c.args.feats.now c.args.last.now c.args.item.now c.args.before (λ z. omega (arith, z, c.if-before-eq0.false)) (last_is (omega (arith, c.if-before-eq0.false))) item_is
    right within (sym c.is_before.ensures ∙ c.if-is_before.true)

pub returns-then-is_before-2 : goal.returns-then-is_before-2
returns-then-is_before-2 c = λ last_is item_is right within.
    placed c.args.feats.now c.args.last.now c.args.item.now c.args.before true (λ z. omega (arith, z, c.if-before-eq0.false)) (last_is (omega (arith, c.if-before-eq0.false))) item_is
    (sym c.is_named_before.ensures ∙ c.if-is_named_before.false) (sym c.is_before-2.ensures ∙ c.if-is_before-2.true)

pub returns : goal.returns
returns c = λ last_is item_is right within.
    placed c.args.feats.now c.args.last.now c.args.item.now c.args.before false (λ z. omega (arith, z, c.if-before-eq0.false)) (last_is (omega (arith, c.if-before-eq0.false))) item_is
    (sym c.is_named_before.ensures ∙ c.if-is_named_before.false) (sym c.is_before-2.ensures ∙ c.if-is_before-2.false)
