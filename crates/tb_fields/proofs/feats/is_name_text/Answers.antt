use Rattle.std.proofs.Common.{sym, ◌∙◌, lit<}
use Rattle.std.proofs.lemmas.Str.Pattern.{split_once_first}
use Rattle.tb_fields.proofs.Parts.{is_name-plain}
use Rattle.tb_fields.proofs.feats.is_name_text.Goals as goal

pub returns-in-None : goal.returns-in-None
returns-in-None c =
    let none = rw c.in-None.is at (split_once_first 91 c.args.text.now c.split_once.result c.split_once.ensures.cases (lit< tt)) in
    c.is_label_text.ensures ∙ sym (is_name-plain c.args.text.now none)
