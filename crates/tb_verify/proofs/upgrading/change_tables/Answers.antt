use Rattle.std.proofs.Common.{arith, ◌∙◌}
use Rattle.sqlite.specs.State.{HasCleanDisk}
use Rattle.sqlite.specs.Held.{state}
use Rattle.tb_tables.specs.Failing.{IsDiskFaultOrWant, NeedsNoFault}
use Rattle.tb_tables.proofs.Causes.{handed_on, faultless_next}
use Rattle.tb_tables.proofs.Rowids.{same_meta_rowids}
use Rattle.tb_verify.proofs.upgrading.change_tables.Goals as goal

pub returns-clause-ok : goal.returns-clause-ok
returns-clause-ok g c clean inside =
    let first : HasCleanDisk (state g.S.Store c.make_pulled.new.tx.conn.now) = omega (arith, c.update_version.ensures.survives.clean) in
    let made = c.in_ok-make_pulled.ensures.ok first inside in
    let set = c.in_ok-update_version.ensures.ok clean made.0 made.1 in
    (set.0, λ d unpulled stands. set.1 d unpulled (made.2 d stands))

pub returns-in_err-update_version-clause-cause : goal.returns-in_err-update_version-clause-cause
returns-in_err-update_version-clause-cause g c clean good =
    let old = state g.S.Store c.args.tx.now.conn.now in
    let mid = state g.S.Store c.make_pulled.new.tx.conn.now in
    let new = state g.S.Store c.update_version.new.tx.conn.now in
    let was : HasCleanDisk mid = omega (arith, c.update_version.ensures.survives.clean) in
    let here = faultless_next old mid new good c.make_pulled.ensures.survives was (omega (arith, c.update_version.ensures.survives.counts)) in
    handed_on NeedsNoFault c.from_residual-in_err-update_version.result c.in_err-update_version.field-0.0 c.from_residual-in_err-update_version.ensures.1 (c.in_err-update_version.ensures.cause clean here)

pub returns-in_err-make_pulled-clause-fails : goal.returns-in_err-make_pulled-clause-fails
returns-in_err-make_pulled-clause-fails g c clean unlimited inside d stands unique in_range =
    handed_on IsDiskFaultOrWant c.from_residual.result c.in_err-make_pulled.field-0.0 c.from_residual.ensures.1 (c.in_err-make_pulled.ensures.fails clean inside)

pub returns-in_err-update_version-clause-fails : goal.returns-in_err-update_version-clause-fails
returns-in_err-update_version-clause-fails g c clean unlimited inside d stands unique in_range =
    let first : HasCleanDisk (state g.S.Store c.make_pulled.new.tx.conn.now) = omega (arith, c.update_version.ensures.survives.clean) in
    let made = c.in_ok-make_pulled.ensures.ok first inside in
    let numbered = same_meta_rowids (state g.S.Store c.args.tx.now.conn.now).now.trees (state g.S.Store c.make_pulled.new.tx.conn.now).now.trees made.3 in_range in
    let fails = c.in_err-update_version.ensures.fails clean (c.make_pulled.ensures.survives.limit ∙ unlimited) made.0 d (made.2 d stands) unique numbered in
    handed_on IsDiskFaultOrWant c.from_residual-in_err-update_version.result c.in_err-update_version.field-0.0 c.from_residual-in_err-update_version.ensures.1 fails
