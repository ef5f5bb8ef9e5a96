use Rattle.std.proofs.Common.{◌≢◌}
use Rattle.tb_core.specs.declared.refusals.Fault.{Fault}
use Rattle.tb_core.specs.declared.refusals.Fault.TheVariants.{Device}
use Rattle.tb_refine.proofs.Unchanged.{desk_same}
use Rattle.tb_tables.proofs.Causes.{handed_on}
use Rattle.tb_tables.proofs.Commands.{if_ok}
use Rattle.tb_verify.proofs.Opened.{desk_of_rows}
use Rattle.tb_verify.proofs.desk.read_desk.Goals as goal

pub returns-clause-answered : goal.returns-clause-answered
returns-clause-answered g c clean =
    let looks = c.may_be_desk.ensures.looks c.if-not-may_be_desk.false in
    let same = c.in_ok-rows.ensures.read_only.unchanged clean looks.schema in
    let stored = c.in_ok-rows.ensures.shown clean looks.schema (looks.listed same.0.was_open) in
    if_ok c.summary_of_desk.result c.summary_of_desk.ensures.summary (λ x reported.
    let desk = desk_of_rows g.S.Store c.args.conn.now c.read_rows.new.conn c.in_ok-rows.rows reported.0 looks same stored reported.1 reported.2 in
    (reported.0, desk, desk_same g.S.Store c.args.conn.now c.read_rows.new.conn reported.0 desk same, reported.3))

pub returns-clause-unfit : goal.returns-clause-unfit
returns-clause-unfit g c clean failed s desk =
    let looks = c.may_be_desk.ensures.looks c.if-not-may_be_desk.false in
    c.summary_of_desk.ensures.unfit failed s desk.reachable (c.in_ok-rows.ensures.reported clean looks.schema s desk.reachable desk.holds.stands)

pub returns-in_err-rows-clause-cause : goal.returns-in_err-rows-clause-cause
returns-in_err-rows-clause-cause g c unlimited clean good =
    let looks = c.may_be_desk.ensures.looks c.if-not-may_be_desk.false in
    handed_on (λ (fault : Fault). fault ≢ Device) c.from_residual.result c.in_err-rows.field-0.0 c.from_residual.ensures.1 (c.in_err-rows.ensures.cause good clean unlimited looks.schema)
