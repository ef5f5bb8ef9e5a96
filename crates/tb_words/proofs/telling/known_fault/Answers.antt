use Rattle.std.proofs.Common.{arith}
use Rattle.tb_words.proofs.RuleSteps.{by_known_name, by_rule}
use Rattle.tb_words.proofs.telling.known_fault.Goals as goal

pub returns-then-rule-eq12 : goal.returns-then-rule-eq12
returns-then-rule-eq12 c =
    λ file count known.
    by_known_name file count c.args.names.now c.args.placed.now c.args.rule c.args.row c.taken_among.result (omega arith) known c.taken_among.ensures

pub returns : goal.returns
returns c =
    λ file count known.
    by_rule file c.args.placed.now c.args.rule c.args.row c.fault_by.result (λ is. omega (arith, is, c.if-rule-eq12.false))
    c.fault_by.ensures.sent_id c.fault_by.ensures.text c.fault_by.ensures.order c.fault_by.ensures.rows c.fault_by.ensures.roots
    c.fault_by.ensures.circle c.fault_by.ensures.spelling
