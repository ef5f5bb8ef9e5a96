use Rattle.std.proofs.Common.{sym, ◌∙◌, arith, lit<}
use Rattle.std.proofs.lemmas.Str.Pattern.{split_once_first}
use Rattle.tb_fields.proofs.Firsts.{values_end}
use Rattle.tb_fields.proofs.Places.{parts_at}
use Rattle.tb_fields.proofs.feats.is_feature_item.Goals as goal

pub returns-clause-sure : goal.returns-clause-sure
returns-clause-sure c = λ short.
    let parts = rw c.in-Some.is at (parts_at 61 c.args.item.now c.split_once.result c.split_once.ensures.cases (lit< tt)) in
    c.holds_values.ensures.sure (omega (arith, parts.1, short))

pub returns-clause-begun : goal.returns-clause-begun
returns-clause-begun c = λ bad.
    let cut = rw c.in-Some.is at (split_once_first 61 c.args.item.now c.split_once.result c.split_once.ensures.cases (lit< tt)) in
    c.holds_values.ensures.begun (values_end c.args.item.now c.in-Some.name.now c.in-Some.values.now cut.0 cut.1 cut.2 (sym c.is_name_text.ensures ∙ c.if-not-is_name_text.false) bad)
