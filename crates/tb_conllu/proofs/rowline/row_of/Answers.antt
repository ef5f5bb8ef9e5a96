use Rattle.std.proofs.Common.{sym, ◌∙◌}
use Rattle.tb_conllu.proofs.RowCodes.{row_ok, row_fits}
use Rattle.tb_conllu.proofs.rowline.row_of.Goals as goal

pub returns-clause-ok : goal.returns-clause-ok
returns-clause-ok c =
    let p = c.in-Some.p in
    let id = c.in-Some-id_of.ensures in
    let head = c.in-Some-head_of.ensures in
    rw c.row_from.ensures (row_ok c.args.line.now p.id.now p.form.now p.lemma.now p.upos.now p.xpos.now p.feats.now p.head.now p.deprel.now p.deps.now p.misc.now c.in-Some-id_of.id c.in-Some-head_of.head c.in-Some.ensures.0 c.in-Some.ensures.1 id.0 id.1 (sym c.any_spaced.ensures ∙ c.if-any_spaced.false) head.0 head.1)

pub returns-clause-shape : goal.returns-clause-shape
returns-clause-shape c =
    let p = c.in-Some.p in
    let id = c.in-Some-id_of.ensures in
    let head = c.in-Some-head_of.ensures in
    rw c.row_from.ensures (row_fits c.args.line.now p.id.now p.form.now p.lemma.now p.upos.now p.xpos.now p.feats.now p.head.now p.deprel.now p.deps.now p.misc.now c.in-Some-id_of.id c.in-Some-head_of.head c.in-Some.ensures.0 c.in-Some.ensures.1 id.1 id.2 (sym c.any_spaced.ensures ∙ c.if-any_spaced.false) head.1 head.2)
