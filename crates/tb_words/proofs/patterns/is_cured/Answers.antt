use Rattle.std.proofs.Common.{List, subst, ℕ, ◌∙◌}
use Rattle.std.proofs.lemmas.Bool.{false≢true}
use Rattle.tb_literal.specs.Patterns.{IsPattern}
use Rattle.tb_words.proofs.patterns.is_cured.Goals as goal

pub returns-in-Ok : goal.returns-in-Ok
returns-in-Ok c = λ at is.
    subst (λ (bs : List ℕ). IsPattern bs) (c.as_str.ensures.value ∙ c.in-Ok.ensures at) (c.is_pattern.ensures is)

pub returns-in-Err : goal.returns-in-Err
returns-in-Err c = λ at is. absurd (false≢true is)
