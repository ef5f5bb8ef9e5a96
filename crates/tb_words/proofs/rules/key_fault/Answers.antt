use Rattle.std.proofs.Common.{ap, inr, subst, ℕ, ◌∙◌}
use Rattle.tb_words.specs.Keyed.{IsFirstKeyed}
use Rattle.tb_words.specs.declared.findings.Detail.TheVariants.{Again}
use Rattle.tb_words.specs.declared.findings.Finding.{Finding}
use Rattle.tb_words.proofs.rules.key_fault.Goals as goal

pub returns : goal.returns
returns c =
    inr (
      c.in-Some.first,
      c.in_ok-second.second,
      c.in-Some.ensures,
      subst (λ (n : ℕ). IsFirstKeyed c.args.key.now c.args.placed.now.block.comments n c.in_ok-second.second) c.saturating_add.ensures
          c.in_ok-second.ensures,
      ap (λ (f : Finding). f.sentence.now) c.and.ensures ∙ ap (λ (f : Finding). f.sentence.now) c.on-2.ensures,
      ap (λ (f : Finding). f.line) c.and.ensures ∙ (ap (λ (f : Finding). f.line) c.on-2.ensures ∙ c.comment_line-line.ensures),
      ap (λ (f : Finding). f.detail) c.and.ensures ∙ ap (λ (n : ℕ). Again n) c.comment_line-again.ensures,
    )
