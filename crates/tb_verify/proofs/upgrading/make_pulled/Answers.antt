use Rattle.sqlite.specs.Held.{state}
use Rattle.tb_tables.specs.Failing.{IsDiskFaultOrWant, NeedsNoFault}
use Rattle.tb_tables.proofs.Causes.{handed_on, statement_needs_none}
use Rattle.tb_verify.proofs.Upgraded.{pulled_fails, pulled_made}
use Rattle.tb_verify.proofs.upgrading.make_pulled.Goals as goal

pub returns-clause-ok : goal.returns-clause-ok
returns-clause-ok g c clean inside =
    let ran = c.in_ok-execute.ensures.runs clean inside.begun in
    pulled_made (state g.S.Store c.args.tx.now.conn.now) (state g.S.Store c.execute.new.self.conn.now) c.in_ok-execute.field-0 inside ran.0 ran.1.mode

pub returns-in_err-execute-clause-cause : goal.returns-in_err-execute-clause-cause
returns-in_err-execute-clause-cause g c clean good =
    let none = statement_needs_none g.S.Store c.args.tx.now.conn.now c.execute.new.self.conn.now good _ _ c.in_err-execute.field-0.0 c.in_err-execute.was c.execute.ensures.ended (c.execute.ensures.runs clean) in
    handed_on NeedsNoFault c.from_residual.result c.in_err-execute.field-0.0 c.from_residual.ensures.1 none

pub returns-in_err-execute-clause-fails : goal.returns-in_err-execute-clause-fails
returns-in_err-execute-clause-fails g c clean inside =
    let ran = c.in_err-execute.ensures.runs clean inside.begun in
    let fails = pulled_fails (state g.S.Store c.args.tx.now.conn.now) (state g.S.Store c.execute.new.self.conn.now) c.in_err-execute.field-0.0 inside ran in
    handed_on IsDiskFaultOrWant c.from_residual.result c.in_err-execute.field-0.0 c.from_residual.ensures.1 fails
