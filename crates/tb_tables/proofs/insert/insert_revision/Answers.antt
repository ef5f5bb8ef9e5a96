use Rattle.tb_tables.proofs.Failing.{revision_fails, revision_only_fails, chosen_fails, chosen_wants}
use Rattle.tb_tables.proofs.Refusing.{fails_as}
use Rattle.tb_tables.proofs.Rowids.{rowids_left}
use Rattle.sqlite.specs.Held.{state}
use Rattle.tb_tables.specs.Records.{Revision}
use Rattle.tb_tables.specs.Revising.{revision_written}
use Rattle.tb_tables.proofs.Inside.{kept_by}
use Rattle.tb_tables.proofs.Meaning.{puts_revision, stands_revision}
use Rattle.tb_tables.proofs.Causes.{statement_needs_none, chosen_needs_none, failed_wants}
use Rattle.tb_tables.proofs.insert.insert_revision.Goals as goal

pub returns-in-Ok-clause-ok : goal.returns-in-Ok-clause-ok
returns-in-Ok-clause-ok g c clean inside d =
    let old = state g.S.Store c.args.tx.now.conn.now in
    let new = state g.S.Store c.execute.new.self.conn.now in
    let ran = c.in-Ok.ensures.runs clean inside.begun in
    let x : Revision = revision_written c.args.revision.now in
    let puts = puts_revision old new x c.in-Ok.field-0 inside.schema (rw (c.params-to_sql.ensures, c.params-to_sql-2.ensures, c.params-to_sql-3.ensures, c.params-to_sql-4.ensures) at ran.0) in
    record { inside = record { begun = ran.1.mode; schema = puts.sets.schema }; committed = ran.1.committed_is; stands = stands_revision old new d x puts; rowids = rowids_left old new d x puts }

pub returns-in-Ok-clause-inside : goal.returns-in-Ok-clause-inside
returns-in-Ok-clause-inside g c = (
  λ clean inside.
      let old = state g.S.Store c.args.tx.now.conn.now in
      let new = state g.S.Store c.execute.new.self.conn.now in
      let ran = c.in-Ok.ensures.runs clean inside.begun in
      let x : Revision = revision_written c.args.revision.now in
      let puts = puts_revision old new x c.in-Ok.field-0 inside.schema (rw (c.params-to_sql.ensures, c.params-to_sql-2.ensures, c.params-to_sql-3.ensures, c.params-to_sql-4.ensures) at ran.0) in
      record { begun = ran.1.mode; schema = puts.sets.schema },
  λ clean. kept_by g.S.Store _ _ c.args.tx.now.conn.now c.execute.new.self.conn.now c.execute.ensures.ended (c.execute.ensures.runs clean),
)

pub returns-in-Err-clause-inside : goal.returns-in-Err-clause-inside
returns-in-Err-clause-inside g c = (λ clean. tt, λ clean. kept_by g.S.Store _ _ c.args.tx.now.conn.now c.execute.new.self.conn.now c.execute.ensures.ended (c.execute.ensures.runs clean))

pub returns-in-Err-clause-fails : goal.returns-in-Err-clause-fails
returns-in-Err-clause-fails g c clean unlimited inside d stands unique =
    let old = state g.S.Store c.args.tx.now.conn.now in
    let new = state g.S.Store c.execute.new.self.conn.now in
    let ran = c.in-Err.ensures.runs clean inside.begun in
    let x : Revision = revision_written c.args.revision.now in
    chosen_fails old new c.in-Err.error c.of_chosen_rowid.result (revision_fails old new d x c.in-Err.error inside.schema unlimited stands unique (rw (c.params-to_sql.ensures, c.params-to_sql-2.ensures, c.params-to_sql-3.ensures, c.params-to_sql-4.ensures) at ran)) c.of_chosen_rowid.ensures

pub returns-in-Err-clause-wants : goal.returns-in-Err-clause-wants
returns-in-Err-clause-wants g c good clean unlimited inside d stands unique who body free =
    let old = state g.S.Store c.args.tx.now.conn.now in
    let new = state g.S.Store c.execute.new.self.conn.now in
    let ran = c.in-Err.ensures.runs clean inside.begun in
    let x : Revision = revision_written c.args.revision.now in
    let fault =
    revision_only_fails old new d x c.in-Err.error inside.schema unlimited stands unique free (rw (c.params-to_sql.ensures, c.params-to_sql-2.ensures, c.params-to_sql-3.ensures, c.params-to_sql-4.ensures) at ran) in
    chosen_wants c.in-Err.error c.of_chosen_rowid.result (failed_wants old new good c.in-Err.error (fails_as (λ big. big who body) old new c.in-Err.error fault)) c.of_chosen_rowid.ensures

pub returns-in-Err-clause-cause : goal.returns-in-Err-clause-cause
returns-in-Err-clause-cause g c clean good =
    let none = statement_needs_none g.S.Store c.args.tx.now.conn.now c.execute.new.self.conn.now good _ _ c.in-Err.error c.in-Err.is c.execute.ensures.ended (c.execute.ensures.runs clean) in
    chosen_needs_none c.in-Err.error c.of_chosen_rowid.result none c.of_chosen_rowid.ensures
