use Rattle.std.proofs.Common.{Bool, ap, codes, rules, subst, ◌++◌, ◌≡◌, ◌∙◌}
use Rattle.std.specs.Result.{IfOk}
use Rattle.tb_fields.specs.Feats.{is_feature_text}
use Rattle.tb_words.proofs.FeatureParts.{valued_feature}
use Rattle.tb_words.proofs.features.is_label.Goals as goal

pub returns : goal.returns
returns c = λ bars commas.
    let text : c.as_str.result.now ≡ codes "X=" ++ c.args.value.now = search rules in
    subst (λ (y : Bool). IfOk c.is_feature_list.result (λ b. b ≡ y))
    (ap is_feature_text text ∙ valued_feature c.args.value.now bars commas) c.is_feature_list.ensures.value
