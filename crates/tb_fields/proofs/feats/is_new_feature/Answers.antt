use Rattle.std.proofs.Common.{◌≡◌, true, sym, ◌∙◌}
use Rattle.std.proofs.lemmas.Bool.{false≢true}
use Rattle.tb_fields.specs.Feats.{is_feature}
use Rattle.tb_fields.proofs.Firsts.{feature_begins}
use Rattle.tb_fields.proofs.feats.is_new_feature.Goals as goal
use Rattle.tb_fields.proofs.feats.is_new_feature.Goals.{then-branch, else-branch}

pub returns-clause-begun : goal.returns-clause-begun
returns-clause-begun c = λ bad.
    let right : is_feature c.args.item.now ≡ true = elim c.if-branch.branch [ then-branch w ↦ sym c.in_ok-is_feature_item.ensures.value ∙ w.if-branch.true | else-branch w ↦ sym c.in_ok-is_feature_item.ensures.value ∙ (sym w.value-is ∙ c.if-not-is_before.false) ] in
    absurd (false≢true (sym bad ∙ feature_begins c.args.item.now right))
