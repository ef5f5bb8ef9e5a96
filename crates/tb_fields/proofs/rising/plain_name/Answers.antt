use Rattle.std.proofs.Common.{sym, ◌∙◌, lit<, Some}
use Rattle.std.proofs.lemmas.Str.Pattern.{split_once_first}
use Rattle.tb_fields.proofs.Ascents.{plain_feature}
use Rattle.tb_fields.proofs.rising.plain_name.Goals as goal

pub returns : goal.returns
returns c =
    let cut = split_once_first 61 c.args.item.now (Some (c.in_ok-name.name, c.in_ok-name.value)) c.in_ok-name.ensures.cases (lit< tt) in (
      plain_feature c.args.item.now c.in_ok-name.name.now c.in_ok-name.value.now cut.0 cut.1 cut.2 (sym c.is_label_text.ensures ∙ c.if-not-is_label_text.false) (sym c.is_name_here.ensures ∙ c.if-not-is_name_here.false),
      cut.1,
    )
