use Rattle.std.proofs.Common.{arith, sym, subst, ◌∙◌}
use Rattle.std.proofs.lemmas.Result.{err_from_is_err_and}
use Rattle.tb_tables.specs.Failing.{IsDiskFaultOrWant, NeedsNoFault}
use Rattle.sqlite.specs.State.{HasCleanDisk}
use Rattle.sqlite.specs.Held.{state}
use Rattle.tb_tables.proofs.Causes.{handed_on, faultless_next}
use Rattle.tb_tables.proofs.creation.make_all.Goals as goal

pub returns-clause-ok : goal.returns-clause-ok
returns-clause-ok g c clean bare =
    let third : HasCleanDisk (state g.S.Store c.insert_version.new.tx.conn.now) = omega (arith, c.insert_totals.ensures.survives.clean) in
    let second : HasCleanDisk (state g.S.Store c.make_last.new.tx.conn.now) = omega (arith, c.insert_version.ensures.survives.clean) in
    let first : HasCleanDisk (state g.S.Store c.make_first.new.tx.conn.now) = omega (arith, c.make_last.ensures.survives.clean) in
    c.in_ok-insert_totals.ensures.ok clean (c.in_ok-insert_version.ensures.ok third (c.in_ok-make_last.ensures.ok second (c.in_ok-make_first.ensures.ok first bare)))

pub returns-in_err-make_first-clause-fails : goal.returns-in_err-make_first-clause-fails
returns-in_err-make_first-clause-fails g c clean unlimited bare =
    let reported = err_from_is_err_and c.from_residual.result c.from_residual.ensures.1 in
    rw reported.1 (subst IsDiskFaultOrWant (sym reported.2) (c.in_err-make_first.ensures.fails clean bare))

pub returns-in_err-make_last-clause-fails : goal.returns-in_err-make_last-clause-fails
returns-in_err-make_last-clause-fails g c clean unlimited bare =
    let reported = err_from_is_err_and c.from_residual-in_err-make_last.result c.from_residual-in_err-make_last.ensures.1 in
    let first : HasCleanDisk (state g.S.Store c.make_first.new.tx.conn.now) = omega (arith, c.make_last.ensures.survives.clean) in
    rw reported.1 (subst IsDiskFaultOrWant (sym reported.2) (c.in_err-make_last.ensures.fails clean (c.in_ok-make_first.ensures.ok first bare)))

pub returns-in_err-insert_version-clause-fails : goal.returns-in_err-insert_version-clause-fails
returns-in_err-insert_version-clause-fails g c clean unlimited bare =
    let reported = err_from_is_err_and c.from_residual-in_err-insert_version.result c.from_residual-in_err-insert_version.ensures.1 in
    let second : HasCleanDisk (state g.S.Store c.make_last.new.tx.conn.now) = omega (arith, c.insert_version.ensures.survives.clean) in
    let first : HasCleanDisk (state g.S.Store c.make_first.new.tx.conn.now) = omega (arith, c.make_last.ensures.survives.clean) in
    rw reported.1 (subst IsDiskFaultOrWant (sym reported.2) (c.in_err-insert_version.ensures.fails clean (c.make_last.ensures.survives.limit ∙ c.make_first.ensures.survives.limit ∙ unlimited) (c.in_ok-make_last.ensures.ok second (c.in_ok-make_first.ensures.ok first bare))))

pub returns-in_err-insert_totals-clause-fails : goal.returns-in_err-insert_totals-clause-fails
returns-in_err-insert_totals-clause-fails g c clean unlimited bare =
    let reported = err_from_is_err_and c.from_residual-in_err-insert_totals.result c.from_residual-in_err-insert_totals.ensures.1 in
    let third : HasCleanDisk (state g.S.Store c.insert_version.new.tx.conn.now) = omega (arith, c.insert_totals.ensures.survives.clean) in
    let second : HasCleanDisk (state g.S.Store c.make_last.new.tx.conn.now) = omega (arith, c.insert_version.ensures.survives.clean) in
    let first : HasCleanDisk (state g.S.Store c.make_first.new.tx.conn.now) = omega (arith, c.make_last.ensures.survives.clean) in
    rw reported.1 (subst IsDiskFaultOrWant (sym reported.2) (c.in_err-insert_totals.ensures.fails clean (c.insert_version.ensures.survives.limit ∙ c.make_last.ensures.survives.limit ∙ c.make_first.ensures.survives.limit ∙ unlimited) (c.in_ok-insert_version.ensures.ok third (c.in_ok-make_last.ensures.ok second (c.in_ok-make_first.ensures.ok first bare)))))

pub returns-in_err-make_last-clause-cause : goal.returns-in_err-make_last-clause-cause
returns-in_err-make_last-clause-cause g c clean good =
    let old = state g.S.Store c.args.tx.now.conn.now in
    let a = state g.S.Store c.make_first.new.tx.conn.now in
    let b = state g.S.Store c.make_last.new.tx.conn.now in
    let clean-a : HasCleanDisk a = omega (arith, c.make_last.ensures.survives.clean) in
    let good-a = faultless_next old a b good c.make_first.ensures.survives clean-a (omega (arith, c.make_last.ensures.survives.counts)) in
    handed_on NeedsNoFault c.from_residual-in_err-make_last.result c.in_err-make_last.field-0.0 c.from_residual-in_err-make_last.ensures.1 (c.in_err-make_last.ensures.cause clean good-a)

pub returns-in_err-insert_version-clause-cause : goal.returns-in_err-insert_version-clause-cause
returns-in_err-insert_version-clause-cause g c clean good =
    let old = state g.S.Store c.args.tx.now.conn.now in
    let a = state g.S.Store c.make_first.new.tx.conn.now in
    let b = state g.S.Store c.make_last.new.tx.conn.now in
    let d = state g.S.Store c.insert_version.new.tx.conn.now in
    let clean-b : HasCleanDisk b = omega (arith, c.insert_version.ensures.survives.clean) in
    let clean-a : HasCleanDisk a = omega (arith, c.make_last.ensures.survives.clean) in
    let good-a = faultless_next old a d good c.make_first.ensures.survives clean-a (omega (arith, c.make_last.ensures.survives.counts, c.insert_version.ensures.survives.counts)) in
    let good-b = faultless_next a b d good-a c.make_last.ensures.survives clean-b (omega (arith, c.insert_version.ensures.survives.counts)) in
    handed_on NeedsNoFault c.from_residual-in_err-insert_version.result c.in_err-insert_version.field-0.0 c.from_residual-in_err-insert_version.ensures.1 (c.in_err-insert_version.ensures.cause clean good-b)

pub returns-in_err-insert_totals-clause-cause : goal.returns-in_err-insert_totals-clause-cause
returns-in_err-insert_totals-clause-cause g c clean good =
    let old = state g.S.Store c.args.tx.now.conn.now in
    let a = state g.S.Store c.make_first.new.tx.conn.now in
    let b = state g.S.Store c.make_last.new.tx.conn.now in
    let d = state g.S.Store c.insert_version.new.tx.conn.now in
    let e = state g.S.Store c.insert_totals.new.tx.conn.now in
    let clean-d : HasCleanDisk d = omega (arith, c.insert_totals.ensures.survives.clean) in
    let clean-b : HasCleanDisk b = omega (arith, c.insert_version.ensures.survives.clean) in
    let clean-a : HasCleanDisk a = omega (arith, c.make_last.ensures.survives.clean) in
    let good-a = faultless_next old a e good c.make_first.ensures.survives clean-a (omega (arith, c.make_last.ensures.survives.counts, c.insert_version.ensures.survives.counts, c.insert_totals.ensures.survives.counts)) in
    let good-b = faultless_next a b e good-a c.make_last.ensures.survives clean-b (omega (arith, c.insert_version.ensures.survives.counts, c.insert_totals.ensures.survives.counts)) in
    let good-d = faultless_next b d e good-b c.insert_version.ensures.survives clean-d (omega (arith, c.insert_totals.ensures.survives.counts)) in
    handed_on NeedsNoFault c.from_residual-in_err-insert_totals.result c.in_err-insert_totals.field-0.0 c.from_residual-in_err-insert_totals.ensures.1 (c.in_err-insert_totals.ensures.cause clean good-d)
