use Rattle.std.proofs.Common.{List, subst, ℕ}
use Rattle.tb_words.proofs.QueryBraces.{after_brace, said_by}
use Rattle.tb_words.specs.QueryNumbers.{SaysBounds}
use Rattle.tb_words.proofs.queries.braces_fault.Goals as goal

pub returns-in-Some : goal.returns-in-Some
returns-in-Some c = λ here.
    let inside = c.in-Some.ensures here.0 (after_brace c.args.text.now c.args.at c.utf8.text here) in (
      inside.0,
      subst (λ (bs : List ℕ). SaysBounds bs (said_by c.numbers_fault.result)) inside.1 c.numbers_fault.ensures,
    )

pub returns-in-None : goal.returns-in-None
returns-in-None c = λ here. c.in-None.ensures here.0 (after_brace c.args.text.now c.args.at c.utf8.text here)
