use Rattle.std.proofs.Common.{sym, ◌∙◌}
use Rattle.std.proofs.lemmas.Bool.{false≢true}
use Rattle.tb_conllu.proofs.faulty.code_of.Goals as goal

pub returns-in-Err-At-clause-code : goal.returns-in-Err-At-clause-code
returns-in-Err-At-clause-code c =
    let refused = rw c.in-Err-At.field-0-is at (c.in-Err-At.ensures.err c.args.came) in
    sym refused.1

pub returns-in-Err-Memory-clause-sure : goal.returns-in-Err-Memory-clause-sure
returns-in-Err-Memory-clause-sure c = λ latin. absurd (false≢true (sym latin ∙ c.in-Err-Memory.ensures.memory c.in-Err-Memory.field-0-is))
