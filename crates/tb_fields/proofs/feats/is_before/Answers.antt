use Rattle.std.proofs.Common.{List, ℕ, sym, ap, map, ◌∙◌, lit<}
use Rattle.tb_fields.specs.Feats.{feature_name, precedes}
use Rattle.tb_fields.proofs.Places.{parts_at}
use Rattle.tb_fields.proofs.feats.is_before.Goals as goal

pub returns-in-None : goal.returns-in-None
returns-in-None c =
    let parts = rw c.in-None.is at (parts_at 124 c.args.text.now c.split_once.result c.split_once.ensures.cases (lit< tt)) in
    c.are_names_in_order.ensures ∙ sym (ap (λ (xs : List (List ℕ)). precedes c.args.name.now (map feature_name xs)) parts)

pub returns-in-Some : goal.returns-in-Some
returns-in-Some c =
    let parts = rw c.in-Some.is at (parts_at 124 c.args.text.now c.split_once.result c.split_once.ensures.cases (lit< tt)) in
    c.are_names_in_order-in-Some.ensures ∙ sym (ap (λ (xs : List (List ℕ)). precedes c.args.name.now (map feature_name xs)) parts.0)
