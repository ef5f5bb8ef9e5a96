use Rattle.std.proofs.Common.{ap, sym, ◌∙◌}
use Rattle.std.specs.Prelude.{not}
use Rattle.tb_conllu.proofs.Splits.{ten_with}
use Rattle.tb_conllu.proofs.fields.ten_fields.Goals as goal

pub returns-then-any_empty : goal.returns-then-any_empty
returns-then-any_empty c =
    let p = c.in_ok-p.p in
    ten_with c.args.line.now p.id.now p.form.now p.lemma.now p.upos.now p.xpos.now p.feats.now p.head.now p.deprel.now p.deps.now p.misc.now c.in_ok-p.ensures ∙ ap not (sym c.any_empty.ensures ∙ c.if-any_empty.true)

pub returns : goal.returns
returns c =
    let p = c.in_ok-p.p in
    (ten_with c.args.line.now p.id.now p.form.now p.lemma.now p.upos.now p.xpos.now p.feats.now p.head.now p.deprel.now p.deps.now p.misc.now c.in_ok-p.ensures ∙ ap not (sym c.any_empty.ensures ∙ c.if-any_empty.false), c.in_ok-p.ensures)
