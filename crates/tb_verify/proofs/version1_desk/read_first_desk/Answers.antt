use Rattle.std.proofs.Common.{◌≢◌}
use Rattle.tb_core.specs.declared.refusals.Fault.{Fault}
use Rattle.tb_core.specs.declared.refusals.Fault.TheVariants.{Device}
use Rattle.tb_tables.proofs.Causes.{handed_on}
use Rattle.tb_tables.proofs.Commands.{if_ok}
use Rattle.tb_verify.proofs.Version1Whole.{first_desk, rows_of_desk}
use Rattle.tb_verify.proofs.version1_desk.read_first_desk.Goals as goal

pub returns-clause-answered : goal.returns-clause-answered
returns-clause-answered g c clean =
    let looks = c.may_be_first_desk.ensures.looks c.if-not-may_be_first_desk.false in
    let rows = c.in_ok-rows.ensures.are clean looks.schema in
    let same = c.in_ok-rows.ensures.same clean looks.schema in
    if_ok c.summary_without_pulls.result c.summary_without_pulls.ensures.summary
    (λ x reported. (reported.0, first_desk g.S.Store c.args.conn.now c.read_version1_rows.new.conn c.in_ok-rows.rows reported.0 looks same rows reported.1 reported.2 reported.3, reported.4))

pub returns-clause-unfit : goal.returns-clause-unfit
returns-clause-unfit g c clean q s desk =
    let looks = c.may_be_first_desk.ensures.looks c.if-not-may_be_first_desk.false in
    let rows = c.in_ok-rows.ensures.are clean looks.schema in
    c.summary_without_pulls.ensures.unfit q s desk.reachable desk.unpulled (rows_of_desk g.S.Store c.args.conn.now c.in_ok-rows.rows s rows desk)

pub returns-in_err-rows-clause-cause : goal.returns-in_err-rows-clause-cause
returns-in_err-rows-clause-cause g c unlimited clean good =
    let looks = c.may_be_first_desk.ensures.looks c.if-not-may_be_first_desk.false in
    handed_on (λ (fault : Fault). fault ≢ Device) c.from_residual.result c.in_err-rows.field-0.0 c.from_residual.ensures.1 (c.in_err-rows.ensures.cause good clean unlimited looks.schema)
