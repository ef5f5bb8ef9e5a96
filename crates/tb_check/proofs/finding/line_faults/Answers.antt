use Rattle.std.proofs.Common.{ap, map, ◌∙◌}
use Rattle.std.proofs.lemmas.Result.{IfOk-weaker}
use Rattle.tb_check.specs.Faults.{at_line}
use Rattle.tb_check.proofs.Found.{first_listed}
use Rattle.tb_check.proofs.finding.line_faults.Goals as goal

pub returns : goal.returns
returns c =
    let found = c.in_ok-lines.ensures.faults in
    let lines = ap (map at_line) (c.deref.ensures.value ∙ found.2) ∙ first_listed c.args.most found.0 in
    IfOk-weaker c.listed.result _ _ (λ v same. (found.0, found.1, same ∙ lines)) c.listed.ensures.same
