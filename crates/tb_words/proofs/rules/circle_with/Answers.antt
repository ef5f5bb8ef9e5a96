use Rattle.std.proofs.Common.{List, Option, subst, sym, ℕ}
use Rattle.std.specs.Option.{IsSomeAnd}
use Rattle.tb_words.specs.Circles.{IsCircleText}
use Rattle.tb_words.proofs.rules.circle_with.Goals as goal

pub returns : goal.returns
returns c = (
  c.circle_finding.ensures.said.0,
  (
    c.in_ok-word.word,
    c.in_ok-word.ensures.some,
    c.circle_finding.ensures.said.1,
    c.circle_finding.ensures.line,
    subst (λ (o : Option (List ℕ)). IsSomeAnd o (IsCircleText c.args.heads.now c.in_ok-word.word)) (sym c.circle_finding.ensures.circle)
        c.in-Ok.ensures,
  ),
)
