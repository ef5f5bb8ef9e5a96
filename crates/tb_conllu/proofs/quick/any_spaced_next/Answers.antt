use Rattle.std.proofs.Common.{sym, ◌∙◌, arith}
use Rattle.tb_conllu.proofs.PartedLines.{tight_near}
use Rattle.tb_conllu.proofs.Tights.{tight_fields}
use Rattle.tb_conllu.proofs.quick.any_spaced_next.Goals as goal

pub returns-else-any_wide_near : goal.returns-else-any_wide_near
returns-else-any_wide_near c =
    let p = c.args.p in
    let line = c.args.line.now in
    let near = rw c.as_bytes.ensures.value at (sym c.any_wide_near.ensures ∙ c.if-any_wide_near.false) in
    let tight = tight_near c.args.unread.now line c.requires.first.0 _ c.requires.first.1 c.requires.cut (omega arith) near in
    c.if-any_wide_near.false ∙ sym (tight_fields line c.utf8.line p.id.now p.form.now p.lemma.now p.upos.now p.xpos.now p.feats.now p.head.now p.deprel.now p.deps.now p.misc.now tight c.requires.fields)
