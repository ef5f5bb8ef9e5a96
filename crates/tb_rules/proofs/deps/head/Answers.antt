use Rattle.std.proofs.Common.{sym, ap, ◌∙◌, lit<}
use Rattle.std.proofs.lemmas.Str.Pattern.{split_once_first}
use Rattle.tb_rules.specs.Places.{word_place}
use Rattle.tb_rules.proofs.Numerals.{place_of-plain}
use Rattle.tb_rules.proofs.deps.head.Goals as goal

pub returns-in-None : goal.returns-in-None
returns-in-None c =
    let none = rw c.in-None.is at (split_once_first 46 c.args.text.now c.split_once.result c.split_once.ensures.cases (lit< tt)) in
    c.word_head.ensures ∙ (ap word_place c.number.ensures ∙ sym (place_of-plain c.args.text.now none))
