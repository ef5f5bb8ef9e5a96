use Rattle.std.proofs.Common.{ap, Bool, ◌∙◌}
use Rattle.tb_words.specs.QueryGuesses.{guess}
use Rattle.tb_words.proofs.queries.guess.Goals as goal

pub returns : goal.returns
returns c = λ at. (
  c.new.result,
  (
    c.new.ensures.before at,
    c.new.ensures.rest at,
    c.new.ensures.brackets,
    c.new.ensures.parentheses,
    c.new.ensures.braces,
  ),
  c.sentence.ensures ∙ ap (λ (b : Bool). guess c.new.result b) c.holds.ensures,
)
