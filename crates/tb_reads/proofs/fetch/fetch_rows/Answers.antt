use Rattle.sqlite.specs.Held.{state}
use Rattle.tb_tables.specs.Layout.{desk_schema}
use Rattle.tb_reads.proofs.Staying.{either_way, shown_stays, failed_stays, nothing_committed, answered_sees}
use Rattle.tb_reads.proofs.Shown.{shown_same}
use Rattle.tb_reads.proofs.ReadOnly.{if_succeeds}
use Rattle.tb_reads.proofs.Failing.{if_err, fault_of, desk_fails}
use Rattle.tb_tables.proofs.Causes.{failed_wants}
use Rattle.tb_reads.proofs.fetch.fetch_rows.Goals as goal

pub returns-clause-read_only : goal.returns-clause-read_only
returns-clause-read_only g c =
    let old = c.args.conn.now in
    let new = c.query_all.new.self in record {
      unchanged = λ clean. if_succeeds c.query_all.result (c.query_all.ensures.ok clean) (λ rows shown has. shown_same c.args.sql.now _ (state g.S.Store old) (state g.S.Store new) desk_schema rows.items c.requires.0 has shown);
      autocommit = c.query_all.ensures.mode;
      keeps_records = λ clean opened d holds.
          either_way c.query_all.result (c.query_all.ensures.ok clean) (c.query_all.ensures.err clean)
          (λ rows shown. shown_stays g.S.Store c.args.sql.now _ old new d rows.items c.requires.0 holds shown)
          (λ e failed. failed_stays g.S.Store c.args.sql.now _ old new d e c.requires.0 holds opened failed);
      commits_nothing = nothing_committed c.args.sql.now _ (state g.S.Store old) (state g.S.Store new) c.requires.0 c.query_all.ensures.survives;
    }

pub returns-clause-fails : goal.returns-clause-fails
returns-clause-fails g c clean unlimited has =
    if_err c.query_all.result (c.query_all.ensures.err clean) (λ e failed. fault_of (desk_fails c.args.sql.now _ c.requires (state g.S.Store c.args.conn.now) (state g.S.Store c.query_all.new.self) e failed has unlimited))

pub returns-clause-cause : goal.returns-clause-cause
returns-clause-cause g c good clean unlimited has =
    let old = state g.S.Store c.args.conn.now in
    let new = state g.S.Store c.query_all.new.self in
    if_err c.query_all.result (c.query_all.ensures.err clean) (λ e failed. failed_wants old new good e (desk_fails c.args.sql.now _ c.requires old new e failed has unlimited))

pub returns-clause-sees : goal.returns-clause-sees
returns-clause-sees g c clean opened has settled =
    answered_sees g.S.Store c.args.conn.now c.query_all.new.self opened settled c.args.sql.now _ c.requires.0 has (λ rows. rows.items) c.query_all.result (c.query_all.ensures.ok clean) (c.query_all.ensures.err clean)
