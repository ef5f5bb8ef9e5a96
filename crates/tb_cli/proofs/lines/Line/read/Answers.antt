use Rattle.std.proofs.Common.{◌≡◌, IfErr, IfOk, Some, subst}
use Rattle.tb_cli.specs.Fault.{IsFaultOf}
use Rattle.tb_cli.specs.Lines.{said_by, said_of}
use Rattle.tb_cli.proofs.Answered.{fault_answers, fault_comes}
use Rattle.tb_cli.proofs.lines.Line.read.Goals as goal

pub returns-clause-ok : goal.returns-clause-ok
returns-clause-ok c =
    subst (λ f. IfOk c.line_in.result (λ line. said_of f ≡ Some (said_by line))) c.in_ok-matches.ensures.ok c.line_in.ensures.value.0

pub returns-clause-err : goal.returns-clause-err
returns-clause-err c =
    fault_comes _ _ c.line_in.result (subst (λ f. IfErr c.line_in.result (IsFaultOf (said_of f))) c.in_ok-matches.ensures.ok c.line_in.ensures.value.1)

pub returns-clause-answers : goal.returns-clause-answers
returns-clause-answers c = fault_answers _ _ c.line_in.result c.in_ok-matches.ensures.answers c.line_in.ensures.value.1
