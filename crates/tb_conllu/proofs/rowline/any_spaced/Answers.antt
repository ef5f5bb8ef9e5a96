use Rattle.std.proofs.Common.{sym, ◌∙◌, ap}
use Rattle.std.specs.List.{list_any}
use Rattle.tb_conllu.specs.Plain.{is_loose}
use Rattle.tb_conllu.proofs.Tights.{tight_fields}
use Rattle.tb_conllu.proofs.rowline.any_spaced.Goals as goal

pub returns-else-any_loose : goal.returns-else-any_loose
returns-else-any_loose c =
    let p = c.args.p in
    c.if-any_loose.false ∙ sym (tight_fields c.args.line.now c.utf8.line p.id.now p.form.now p.lemma.now p.upos.now p.xpos.now p.feats.now p.head.now p.deprel.now p.deps.now p.misc.now (ap (list_any is_loose) (sym c.as_bytes.ensures.value) ∙ sym c.any_loose.ensures ∙ c.if-any_loose.false) c.requires)
