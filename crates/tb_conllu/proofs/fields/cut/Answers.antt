use Rattle.std.proofs.Common.{◌≡◌, ◌∷◌}
use Rattle.tb_conllu.specs.Lines.{fields}
use Rattle.tb_conllu.proofs.Splits.{eleven}
use Rattle.tb_conllu.proofs.fields.cut.Goals as goal

pub returns-in-Some : goal.returns-in-Some
returns-in-Some c =
    let same : fields c.args.line.now ≡ c.in_ok-id.id.now ∷ c.in_ok-form.form.now ∷ c.in_ok-lemma.lemma.now ∷ c.in_ok-upos.upos.now ∷ c.in_ok-xpos.xpos.now ∷ c.in_ok-feats.feats.now ∷ c.in_ok-head.head.now ∷ c.in_ok-deprel.deprel.now ∷ c.in_ok-deps.deps.now ∷ c.in-Some._tenth.now ∷ fields c.in-Some._more.now = cc (c.in_ok-id.ensures, c.in_ok-form.ensures, c.in_ok-lemma.ensures, c.in_ok-upos.ensures, c.in_ok-xpos.ensures, c.in_ok-feats.ensures, c.in_ok-head.ensures, c.in_ok-deprel.ensures, c.in_ok-deps.ensures, c.in-Some.ensures) in
    eleven c.args.line.now _ _ _ _ _ _ _ _ _ _ c.in-Some._more.now same
