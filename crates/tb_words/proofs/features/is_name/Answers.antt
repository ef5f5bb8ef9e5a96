use Rattle.std.proofs.Common.{Bool, ap, codes, rules, subst, ◌++◌, ◌≡◌, ◌∙◌}
use Rattle.std.specs.Result.{IfOk}
use Rattle.tb_fields.specs.Feats.{is_feature_text}
use Rattle.tb_words.proofs.FeatureParts.{named_feature}
use Rattle.tb_words.proofs.features.is_name.Goals as goal

pub returns : goal.returns
returns c = λ bars equals.
    let text : c.as_str.result.now ≡ c.args.name.now ++ codes "=X" = search rules in
    subst (λ (y : Bool). IfOk c.is_feature_list.result (λ b. b ≡ y))
    (ap is_feature_text text ∙ named_feature c.args.name.now bars equals) c.is_feature_list.ensures.value
