use Rattle.std.proofs.Common.{ap, append-nil, option_to_list, Option, sym, ◌++◌, ◌∙◌}
use Rattle.tb_words.specs.declared.literals.Literal.{Literal}
use Rattle.tb_words.proofs.literals.push_ended.Goals as goal

pub returns-in_ok-push-in-Some : goal.returns-in_ok-push-in-Some
returns-in_ok-push-in-Some c =
    c.in_ok-push-in-Some.ensures.items ∙ ap (λ (o : Option Literal). c.args.found.now.items ++ option_to_list o) (sym c.in-Some.is)

pub returns-in-None : goal.returns-in-None
returns-in-None c =
    sym (append-nil c.args.found.now.items)
    ∙ ap (λ (o : Option Literal). c.args.found.now.items ++ option_to_list o) (sym c.in-None.is)
