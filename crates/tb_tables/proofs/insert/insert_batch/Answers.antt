use Rattle.std.proofs.Common.{arith, subst, sym}
use Rattle.std.proofs.lemmas.Result.{err_from_is_err_and}
use Rattle.tb_tables.specs.Failing.{IsStoreFault, IsWant, NeedsNoFault}
use Rattle.tb_tables.proofs.Failing.{batch_fails}
use Rattle.sqlite.specs.Held.{state}
use Rattle.tb_tables.specs.Records.{Batch}
use Rattle.tb_tables.proofs.Inside.{kept_by}
use Rattle.tb_tables.proofs.Meaning.{puts_batch, stands_batch}
use Rattle.tb_tables.proofs.Refusing.{store_fault, fails_as}
use Rattle.tb_tables.proofs.Rowids.{rowids_stay}
use Rattle.tb_tables.proofs.Causes.{handed_on, statement_needs_none, failed_wants}
use Rattle.tb_tables.proofs.insert.insert_batch.Goals as goal

pub returns-clause-ok : goal.returns-clause-ok
returns-clause-ok g c clean inside d at =
    let old = state g.S.Store c.args.tx.now.conn.now in
    let new = state g.S.Store c.execute.new.self.conn.now in
    let ran = c.in_ok-execute.ensures.runs clean inside.begun in
    let x : Batch = record { name = c.args.name.now; state = c.args.in_state; worker = c.args.worker.now } in
    let puts = puts_batch old new c.args.no x c.in_ok-execute.field-0 inside.schema (rw (c.params-to_sql.ensures, c.params-to_sql-2.ensures, c.params-to_sql-3.ensures, c.params-to_sql-4.ensures) at ran.0) in
    record { inside = record { begun = ran.1.mode; schema = puts.sets.schema }; committed = ran.1.committed_is; stands = stands_batch old new d c.args.no x puts at; rowids = rowids_stay old new 1 _ puts.sets (λ e. cc) d }

pub returns-clause-inside : goal.returns-clause-inside
returns-clause-inside g c = (
  λ clean inside.
      let old = state g.S.Store c.args.tx.now.conn.now in
      let new = state g.S.Store c.execute.new.self.conn.now in
      let ran = c.in_ok-execute.ensures.runs clean inside.begun in
      let x : Batch = record { name = c.args.name.now; state = c.args.in_state; worker = c.args.worker.now } in
      let puts = puts_batch old new c.args.no x c.in_ok-execute.field-0 inside.schema (rw (c.params-to_sql.ensures, c.params-to_sql-2.ensures, c.params-to_sql-3.ensures, c.params-to_sql-4.ensures) at ran.0) in
      record { begun = ran.1.mode; schema = puts.sets.schema },
  λ clean. kept_by g.S.Store _ _ c.args.tx.now.conn.now c.execute.new.self.conn.now c.execute.ensures.ended (c.execute.ensures.runs clean),
)

pub returns-in_err-execute-clause-inside : goal.returns-in_err-execute-clause-inside
returns-in_err-execute-clause-inside g c =
    let reported = err_from_is_err_and c.from_residual.result c.from_residual.ensures.1 in
    (λ clean. rw reported.1 tt, λ clean. kept_by g.S.Store _ _ c.args.tx.now.conn.now c.execute.new.self.conn.now c.execute.ensures.ended (c.execute.ensures.runs clean))

pub returns-in_err-execute-clause-fails : goal.returns-in_err-execute-clause-fails
returns-in_err-execute-clause-fails g c clean unlimited inside d stands next unique =
    let old = state g.S.Store c.args.tx.now.conn.now in
    let new = state g.S.Store c.execute.new.self.conn.now in
    let reported = err_from_is_err_and c.from_residual.result c.from_residual.ensures.1 in
    let ran = c.in_err-execute.ensures.runs clean inside.begun in
    let small = c.ranges.no.fits in
    let x : Batch = record { name = c.args.name.now; state = c.args.in_state; worker = c.args.worker.now } in
    rw reported.1 (subst IsStoreFault (sym reported.2) (store_fault old new c.in_err-execute.field-0.0 (batch_fails old new d c.args.no x c.in_err-execute.field-0.0 inside.schema unlimited stands (omega (arith, small)) next unique (rw (c.params-to_sql.ensures, c.params-to_sql-2.ensures, c.params-to_sql-3.ensures, c.params-to_sql-4.ensures) at ran))))

pub returns-in_err-execute-clause-wants : goal.returns-in_err-execute-clause-wants
returns-in_err-execute-clause-wants g c good clean unlimited inside d stands next unique name worker =
    let old = state g.S.Store c.args.tx.now.conn.now in
    let new = state g.S.Store c.execute.new.self.conn.now in
    let reported = err_from_is_err_and c.from_residual.result c.from_residual.ensures.1 in
    let ran = c.in_err-execute.ensures.runs clean inside.begun in
    let small = c.ranges.no.fits in
    let x : Batch = record { name = c.args.name.now; state = c.args.in_state; worker = c.args.worker.now } in
    rw reported.1 (subst IsWant (sym reported.2) (failed_wants old new good c.in_err-execute.field-0.0 (fails_as (λ big. big name worker) old new c.in_err-execute.field-0.0 (batch_fails old new d c.args.no x c.in_err-execute.field-0.0 inside.schema unlimited stands (omega (arith, small)) next unique (rw (c.params-to_sql.ensures, c.params-to_sql-2.ensures, c.params-to_sql-3.ensures, c.params-to_sql-4.ensures) at ran)))))

pub returns-in_err-execute-clause-cause : goal.returns-in_err-execute-clause-cause
returns-in_err-execute-clause-cause g c clean good =
    let none = statement_needs_none g.S.Store c.args.tx.now.conn.now c.execute.new.self.conn.now good _ _ c.in_err-execute.field-0.0 c.in_err-execute.was c.execute.ensures.ended (c.execute.ensures.runs clean) in
    handed_on NeedsNoFault c.from_residual.result c.in_err-execute.field-0.0 c.from_residual.ensures.1 none
