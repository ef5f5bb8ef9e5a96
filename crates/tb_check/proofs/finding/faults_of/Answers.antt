use Rattle.std.proofs.Common.{inl, inr, map, refl}
use Rattle.std.proofs.lemmas.Result.{IfOk-weaker}
use Rattle.tb_check.specs.Faults.{at_line}
use Rattle.tb_check.proofs.Found.{err_so, no_file_some}
use Rattle.tb_check.proofs.finding.faults_of.Goals as goal

pub returns-in-Ok-clause-found : goal.returns-in-Ok-clause-found
returns-in-Ok-clause-found c = let found = c.in-Ok.ensures.found in (found.1, inl (found.0, found.2, found.3), found.4)

pub returns-in-Err-At-clause-found : goal.returns-in-Err-At-clause-found
returns-in-Err-At-clause-found c =
    let fault = rw c.in-Err-At.field-0-is at c.in-Err-At.ensures.fault in
    let none = c.reported_bytes_are_no_file.ensures c.args.bytes.now c.in-Err-At.field-0-0 c.in-Err-At.field-0-1 fault in
    IfOk-weaker c.line_faults.result _ _ (λ v found. (map at_line found.0, inr (none, (found.0, found.1, refl)), found.2)) c.line_faults.ensures

pub returns-in-Err-At-clause-memory : goal.returns-in-Err-At-clause-memory
returns-in-Err-At-clause-memory c =
    let fault = rw c.in-Err-At.field-0-is at c.in-Err-At.ensures.fault in
    let none = c.reported_bytes_are_no_file.ensures c.args.bytes.now c.in-Err-At.field-0-0 c.in-Err-At.field-0-1 fault in
    err_so c.line_faults.result (no_file_some c.args.bytes.now none)
