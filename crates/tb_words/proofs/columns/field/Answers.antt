use Rattle.std.proofs.Common.{lit<, refl}
use Rattle.std.proofs.lemmas.Iterator.Consumers.{nth_from_yields_List}
use Rattle.std.proofs.lemmas.Iterator.Splits.{YieldsList-from_str_split}
use Rattle.tb_conllu.specs.Lines.{fields}
use Rattle.tb_words.proofs.Cuts.{item_or_none}
use Rattle.tb_words.proofs.columns.field.Goals as goal

pub returns : goal.returns
returns c =
    let item = nth_from_yields_List c.nth.result c.nth.new.self c.args.column c.nth.ensures.ran
    (YieldsList-from_str_split 9 c.args.line.now (lit< tt) c.split.ensures.text c.split.ensures.has_more
    c.split.ensures.pattern) in
    rw c.unwrap_or.ensures (item_or_none c.nth.result _ (fields c.args.line.now) c.args.column item refl)
