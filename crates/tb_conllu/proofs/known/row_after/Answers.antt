use Rattle.std.proofs.Common.{sym, ◌∙◌}
use Rattle.tb_conllu.proofs.Recut.{row_known, no_id, no_head}
use Rattle.tb_conllu.proofs.known.row_after.Goals as goal

pub returns-in_default-id_of-clause-row : goal.returns-in_default-id_of-clause-row
returns-in_default-id_of-clause-row c r rest shaped some same =
    let p = c.in-Some.fields in
    no_id r p.id.now p.form.now p.lemma.now p.upos.now p.xpos.now p.feats.now p.head.now p.deprel.now p.deps.now p.misc.now _ rest shaped (sym c.in-Some.ensures ∙ same) c.in_default-id_of.ensures

pub returns-in_default-head_of-clause-row : goal.returns-in_default-head_of-clause-row
returns-in_default-head_of-clause-row c r rest shaped some same =
    let p = c.in-Some.fields in
    no_head r p.id.now p.form.now p.lemma.now p.upos.now p.xpos.now p.feats.now p.head.now p.deprel.now p.deps.now p.misc.now _ rest shaped (sym c.in-Some.ensures ∙ same) c.in_default-head_of.ensures

pub returns-clause-row : goal.returns-clause-row
returns-clause-row c r rest shaped some same =
    let p = c.in-Some.fields in
    let id = c.in-Some-id_of.ensures in
    let head = c.in-Some-head_of.ensures in
    c.row_from.ensures ∙ row_known r p.id.now p.form.now p.lemma.now p.upos.now p.xpos.now p.feats.now p.head.now p.deprel.now p.deps.now p.misc.now _ rest c.in-Some-id_of.id c.in-Some-head_of.head shaped (sym c.in-Some.ensures ∙ same) id.2 id.1 head.2 head.1
