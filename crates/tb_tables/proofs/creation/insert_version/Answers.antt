use Rattle.std.proofs.Common.{sym, subst}
use Rattle.std.proofs.lemmas.Result.{err_from_is_err_and}
use Rattle.tb_tables.specs.Failing.{IsDiskFaultOrWant, NeedsNoFault}
use Rattle.tb_tables.proofs.Creating.{version_fails}
use Rattle.sqlite.specs.Held.{state}
use Rattle.tb_tables.proofs.Filling.{versioned}
use Rattle.tb_tables.proofs.Causes.{handed_on, statement_needs_none}
use Rattle.tb_tables.proofs.creation.insert_version.Goals as goal

pub returns-clause-ok : goal.returns-clause-ok
returns-clause-ok g c clean bare =
    let ran = c.in_ok-execute.ensures.runs clean bare.begun in
    versioned (state g.S.Store c.args.tx.now.conn.now) (state g.S.Store c.execute.new.self.conn.now) c.in_ok-execute.field-0 bare ran.0 ran.1.mode

pub returns-in_err-execute-clause-fails : goal.returns-in_err-execute-clause-fails
returns-in_err-execute-clause-fails g c clean unlimited bare =
    let old = state g.S.Store c.args.tx.now.conn.now in
    let new = state g.S.Store c.execute.new.self.conn.now in
    let reported = err_from_is_err_and c.from_residual.result c.from_residual.ensures.1 in
    let ran = c.in_err-execute.ensures.runs clean bare.begun in
    rw reported.1 (subst IsDiskFaultOrWant (sym reported.2) (version_fails old new c.in_err-execute.field-0.0 bare unlimited ran))

pub returns-in_err-execute-clause-cause : goal.returns-in_err-execute-clause-cause
returns-in_err-execute-clause-cause g c clean good =
    let none = statement_needs_none g.S.Store c.args.tx.now.conn.now c.execute.new.self.conn.now good _ _ c.in_err-execute.field-0.0 c.in_err-execute.was c.execute.ensures.ended (c.execute.ensures.runs clean) in
    handed_on NeedsNoFault c.from_residual.result c.in_err-execute.field-0.0 c.from_residual.ensures.1 none
