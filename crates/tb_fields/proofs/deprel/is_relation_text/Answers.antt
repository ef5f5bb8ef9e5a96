use Rattle.std.proofs.Common.{sym, ◌∙◌, lit<}
use Rattle.std.proofs.lemmas.Str.Pattern.{split_once_first}
use Rattle.tb_fields.proofs.Relations.{is_relation-plain, universal_fits}
use Rattle.tb_fields.proofs.deprel.is_relation_text.Goals as goal

pub returns-then-is_universal : goal.returns-then-is_universal
returns-then-is_universal c = sym (universal_fits c.args.relation.now (sym c.is_universal.ensures ∙ c.if-is_universal.true))

pub returns-in-None : goal.returns-in-None
returns-in-None c =
    let none = rw c.in-None.is at (split_once_first 58 c.args.relation.now c.split_once.result c.split_once.ensures.cases (lit< tt)) in
    sym c.if-is_universal.false ∙ c.is_universal.ensures ∙ sym (is_relation-plain c.args.relation.now none)
