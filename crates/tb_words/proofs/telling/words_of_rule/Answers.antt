use Rattle.std.proofs.Common.{ap, inl, subst, sym, ◌∙◌}
use Rattle.tb_words.specs.Explained.{BeginWith}
use Rattle.tb_words.specs.Shown.{finding_text}
use Rattle.tb_words.specs.declared.words.Words.{Words}
use Rattle.tb_words.proofs.telling.words_of_rule.Goals as goal

pub returns-in-Some-clause-said : goal.returns-in-Some-clause-said
returns-in-Some-clause-said c =
    let told = c.in-Some.ensures in
    inl (
      told.0,
      told.1,
      told.2,
      told.3,
      ap (λ (w : Words). w.sentence.now) c.on.ensures ∙ told.4,
      subst (λ (w : Words). BeginWith w (finding_text told.1)) (sym c.on.ensures) told.5,
    )
