use Rattle.std.proofs.Common.{sym, ap, ◌∙◌, lit<}
use Rattle.tb_rules.specs.Places.{place_precedes}
use Rattle.tb_fields.proofs.Places.{parts_at}
use Rattle.tb_rules.proofs.deps.is_before.Goals as goal

pub returns-in-None : goal.returns-in-None
returns-in-None c =
    let parts = rw c.in-None.is at (parts_at 124 c.args.text.now c.split_once.result c.split_once.ensures.cases (lit< tt)) in
    c.are_in_order.ensures ∙ sym (ap (place_precedes c.args.pair.now) parts)

pub returns-in-Some : goal.returns-in-Some
returns-in-Some c =
    let parts = rw c.in-Some.is at (parts_at 124 c.args.text.now c.split_once.result c.split_once.ensures.cases (lit< tt)) in
    c.are_in_order-in-Some.ensures ∙ sym (ap (place_precedes c.args.pair.now) parts.0)
