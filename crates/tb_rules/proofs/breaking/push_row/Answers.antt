use Rattle.tb_rules.specs.Broken.{rule_of}
use Rattle.tb_rules.proofs.Broken.{next_broken, next_kept}
use Rattle.tb_rules.proofs.breaking.push_row.Goals as goal

pub returns-in_default-clause-added : goal.returns-in_default-clause-added
returns-in_default-clause-added c = λ rs b h asked kept. next_kept rs (rule_of c.args.rule) b c.args.broken.now.items h (λ _. rw c.in_default.is at kept)

pub returns-clause-added : goal.returns-clause-added
returns-clause-added c = λ rs b h asked broken.
    let at = rw c.in-Some.is at broken in
    let next = next_broken rs (rule_of c.args.rule) b c.args.broken.now.items c.in-Some.row h asked at in
    rw (c.in_ok-push.ensures.items, c.number_of.ensures) next
