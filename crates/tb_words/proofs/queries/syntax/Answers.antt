use Rattle.std.proofs.Common.{List, subst, sym, ℕ}
use Rattle.tb_words.specs.Explained.{IsGuess}
use Rattle.tb_words.proofs.queries.syntax.Goals as goal

pub returns : goal.returns
returns c = λ at. (
  subst (λ (said : List ℕ). IsGuess c.args.text.now c.args.literals.now c.args.at said) (sym c.at_byte.ensures.says.sentence) (c.guess.ensures at),
  (c.at_byte.ensures.place at, c.at_byte.ensures.picture at),
)
