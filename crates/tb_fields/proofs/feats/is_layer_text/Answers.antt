use Rattle.std.proofs.Common.{lit<}
use Rattle.std.proofs.lemmas.Str.Pattern.{split_once_first}
use Rattle.tb_fields.proofs.Parts.{is_layer-open}
use Rattle.tb_fields.proofs.feats.is_layer_text.Goals as goal

pub returns-in-None : goal.returns-in-None
returns-in-None c =
    let none = rw c.in-None.is at (split_once_first 93 c.args.text.now c.split_once.result c.split_once.ensures.cases (lit< tt)) in
    is_layer-open c.args.text.now none
