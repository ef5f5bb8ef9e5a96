use Rattle.std.proofs.Common.{List, get_or, map, subst, sym, take}
use Rattle.std.proofs.lemmas.Bool.{iff_false}
use Rattle.tb_rules.specs.Broken.{AreBrokenOf, rule_of}
use Rattle.tb_rules.specs.Rules.{Rule}
use Rattle.tb_rules.specs.declared.rule.Rule.TheVariants.{SentId}
use Rattle.tb_rules.proofs.Broken.{more_rules, next_kept}
use Rattle.tb_rules.proofs.breaking.broken_of.Goals as goal

pub loop-rule-preserved-then-not-is_asked : goal.loop-rule-preserved-then-not-is_asked
loop-rule-preserved-then-not-is_asked g c =
    let b = c.args.block.now in
    let i = c.loop-rule.rule-index in
    let rule = rule_of (get_or c.args.rules.now i SentId) in
    let unasked = iff_false (c.is_asked.ensures b c.has_text-text.ensures c.has_ids-ids.ensures) c.if-not-is_asked.true in
    subst (λ (rs : List Rule). AreBrokenOf rs b c.loop-rule.broken.items) (sym (more_rules c.args.rules.now i SentId c.loop-rule-test.true))
    (next_kept (map rule_of (take i c.args.rules.now)) rule b c.loop-rule.broken.items c.loop-rule.invariant (λ asked. absurd (unasked asked)))

pub broken_row-requires-clause-asked : goal.broken_row-requires-clause-asked
broken_row-requires-clause-asked g c = (c.is_asked.ensures c.args.block.now c.has_text-text.ensures c.has_ids-ids.ensures).0 c.if-not-is_asked.false

pub loop-rule-preserved : goal.loop-rule-preserved
loop-rule-preserved g c =
    let b = c.args.block.now in
    let i = c.loop-rule.rule-index in
    let asked = (c.is_asked.ensures b c.has_text-text.ensures c.has_ids-ids.ensures).0 c.if-not-is_asked.false in
    subst (λ (rs : List Rule). AreBrokenOf rs b c.push_row.new.broken.items) (sym (more_rules c.args.rules.now i SentId c.loop-rule-test.true))
    (c.in_ok-push_row.ensures.added (map rule_of (take i c.args.rules.now)) b c.loop-rule.invariant asked c.in_ok-row.ensures.row)
