use Rattle.std.proofs.Common.{arith, sym, subst}
use Rattle.std.proofs.lemmas.Result.{err_from_is_err_and}
use Rattle.tb_tables.specs.Failing.{IsDiskFaultOrWant, NeedsNoFault}
use Rattle.tb_tables.proofs.Creating.{takes_meta, takes_batches, takes_sentences, takes_revisions}
use Rattle.sqlite.specs.State.{HasCleanDisk}
use Rattle.sqlite.specs.Held.{state}
use Rattle.tb_tables.proofs.Making.{makes_meta, makes_batches, makes_sentences, makes_revisions}
use Rattle.tb_tables.proofs.Causes.{handed_on, faultless_next}
use Rattle.tb_tables.proofs.creation.make_first.Goals as goal

pub returns-clause-ok : goal.returns-clause-ok
returns-clause-ok g c clean bare =
    let third : HasCleanDisk (state g.S.Store c.make-3.new.tx.conn.now) = omega (arith, c.make-4.ensures.survives.clean) in
    let second : HasCleanDisk (state g.S.Store c.make-2.new.tx.conn.now) = omega (arith, c.make-3.ensures.survives.clean) in
    let first : HasCleanDisk (state g.S.Store c.make.new.tx.conn.now) = omega (arith, c.make-2.ensures.survives.clean) in
    let a = c.in_ok-make.ensures.ok first _ _ bare makes_meta in
    let b = c.in_ok-make-2.ensures.ok second _ _ a makes_batches in
    let d = c.in_ok-make-3.ensures.ok third _ _ b makes_sentences in
    c.in_ok-make-4.ensures.ok clean _ _ d makes_revisions

pub returns-in_err-make-clause-fails : goal.returns-in_err-make-clause-fails
returns-in_err-make-clause-fails g c clean bare =
    let reported = err_from_is_err_and c.from_residual.result c.from_residual.ensures.1 in
    rw reported.1 (subst IsDiskFaultOrWant (sym reported.2) (c.in_err-make.ensures.fails clean _ _ bare makes_meta takes_meta))

pub returns-in_err-make-2-clause-fails : goal.returns-in_err-make-2-clause-fails
returns-in_err-make-2-clause-fails g c clean bare =
    let reported = err_from_is_err_and c.from_residual-in_err-make-2.result c.from_residual-in_err-make-2.ensures.1 in
    let first : HasCleanDisk (state g.S.Store c.make.new.tx.conn.now) = omega (arith, c.make-2.ensures.survives.clean) in
    let a = c.in_ok-make.ensures.ok first _ _ bare makes_meta in
    rw reported.1 (subst IsDiskFaultOrWant (sym reported.2) (c.in_err-make-2.ensures.fails clean _ _ a makes_batches takes_batches))

pub returns-in_err-make-3-clause-fails : goal.returns-in_err-make-3-clause-fails
returns-in_err-make-3-clause-fails g c clean bare =
    let reported = err_from_is_err_and c.from_residual-in_err-make-3.result c.from_residual-in_err-make-3.ensures.1 in
    let second : HasCleanDisk (state g.S.Store c.make-2.new.tx.conn.now) = omega (arith, c.make-3.ensures.survives.clean) in
    let first : HasCleanDisk (state g.S.Store c.make.new.tx.conn.now) = omega (arith, c.make-2.ensures.survives.clean) in
    let a = c.in_ok-make.ensures.ok first _ _ bare makes_meta in
    let b = c.in_ok-make-2.ensures.ok second _ _ a makes_batches in
    rw reported.1 (subst IsDiskFaultOrWant (sym reported.2) (c.in_err-make-3.ensures.fails clean _ _ b makes_sentences takes_sentences))

pub returns-in_err-make-4-clause-fails : goal.returns-in_err-make-4-clause-fails
returns-in_err-make-4-clause-fails g c clean bare =
    let reported = err_from_is_err_and c.from_residual-in_err-make-4.result c.from_residual-in_err-make-4.ensures.1 in
    let third : HasCleanDisk (state g.S.Store c.make-3.new.tx.conn.now) = omega (arith, c.make-4.ensures.survives.clean) in
    let second : HasCleanDisk (state g.S.Store c.make-2.new.tx.conn.now) = omega (arith, c.make-3.ensures.survives.clean) in
    let first : HasCleanDisk (state g.S.Store c.make.new.tx.conn.now) = omega (arith, c.make-2.ensures.survives.clean) in
    let a = c.in_ok-make.ensures.ok first _ _ bare makes_meta in
    let b = c.in_ok-make-2.ensures.ok second _ _ a makes_batches in
    let d = c.in_ok-make-3.ensures.ok third _ _ b makes_sentences in
    rw reported.1 (subst IsDiskFaultOrWant (sym reported.2) (c.in_err-make-4.ensures.fails clean _ _ d makes_revisions takes_revisions))

pub returns-in_err-make-2-clause-cause : goal.returns-in_err-make-2-clause-cause
returns-in_err-make-2-clause-cause g c clean good =
    let old = state g.S.Store c.args.tx.now.conn.now in
    let a = state g.S.Store c.make.new.tx.conn.now in
    let b = state g.S.Store c.make-2.new.tx.conn.now in
    let clean-a : HasCleanDisk a = omega (arith, c.make-2.ensures.survives.clean) in
    let good-a = faultless_next old a b good c.make.ensures.survives clean-a (omega (arith, c.make-2.ensures.survives.counts)) in
    handed_on NeedsNoFault c.from_residual-in_err-make-2.result c.in_err-make-2.field-0.0 c.from_residual-in_err-make-2.ensures.1 (c.in_err-make-2.ensures.cause clean good-a)

pub returns-in_err-make-3-clause-cause : goal.returns-in_err-make-3-clause-cause
returns-in_err-make-3-clause-cause g c clean good =
    let old = state g.S.Store c.args.tx.now.conn.now in
    let a = state g.S.Store c.make.new.tx.conn.now in
    let b = state g.S.Store c.make-2.new.tx.conn.now in
    let d = state g.S.Store c.make-3.new.tx.conn.now in
    let clean-b : HasCleanDisk b = omega (arith, c.make-3.ensures.survives.clean) in
    let clean-a : HasCleanDisk a = omega (arith, c.make-2.ensures.survives.clean) in
    let good-a = faultless_next old a d good c.make.ensures.survives clean-a (omega (arith, c.make-2.ensures.survives.counts, c.make-3.ensures.survives.counts)) in
    let good-b = faultless_next a b d good-a c.make-2.ensures.survives clean-b (omega (arith, c.make-3.ensures.survives.counts)) in
    handed_on NeedsNoFault c.from_residual-in_err-make-3.result c.in_err-make-3.field-0.0 c.from_residual-in_err-make-3.ensures.1 (c.in_err-make-3.ensures.cause clean good-b)

pub returns-in_err-make-4-clause-cause : goal.returns-in_err-make-4-clause-cause
returns-in_err-make-4-clause-cause g c clean good =
    let old = state g.S.Store c.args.tx.now.conn.now in
    let a = state g.S.Store c.make.new.tx.conn.now in
    let b = state g.S.Store c.make-2.new.tx.conn.now in
    let d = state g.S.Store c.make-3.new.tx.conn.now in
    let e = state g.S.Store c.make-4.new.tx.conn.now in
    let clean-d : HasCleanDisk d = omega (arith, c.make-4.ensures.survives.clean) in
    let clean-b : HasCleanDisk b = omega (arith, c.make-3.ensures.survives.clean) in
    let clean-a : HasCleanDisk a = omega (arith, c.make-2.ensures.survives.clean) in
    let good-a = faultless_next old a e good c.make.ensures.survives clean-a (omega (arith, c.make-2.ensures.survives.counts, c.make-3.ensures.survives.counts, c.make-4.ensures.survives.counts)) in
    let good-b = faultless_next a b e good-a c.make-2.ensures.survives clean-b (omega (arith, c.make-3.ensures.survives.counts, c.make-4.ensures.survives.counts)) in
    let good-d = faultless_next b d e good-b c.make-3.ensures.survives clean-d (omega (arith, c.make-4.ensures.survives.counts)) in
    handed_on NeedsNoFault c.from_residual-in_err-make-4.result c.in_err-make-4.field-0.0 c.from_residual-in_err-make-4.ensures.1 (c.in_err-make-4.ensures.cause clean good-d)
