use Rattle.std.proofs.Common.{List, ℕ, not, sym, ap, ◌∙◌}
use Rattle.tb_fields.specs.Rising.{is_below}
use Rattle.tb_fields.specs.Feats.{feature_name}
use Rattle.tb_fields.proofs.Ascents.{not_after_by}
use Rattle.tb_fields.proofs.feats.are_names_in_order.Goals as goal

pub returns : goal.returns
returns c =
    let first = c.as_bytes.ensures.value ∙ c.name_of.ensures in
    let below = c.is_below.ensures ∙ ap (λ (xs : List ℕ). is_below xs c.as_bytes-2.result.now) first ∙ ap (is_below (feature_name c.args.item.now)) c.as_bytes-2.ensures.value in
    ap not below ∙ sym (not_after_by c.args.name.now (feature_name c.args.item.now))
