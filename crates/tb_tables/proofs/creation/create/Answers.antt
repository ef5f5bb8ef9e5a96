use Rattle.std.proofs.Common.{None, ◌≡◌, ◌≤◌, arith, rules, sym, subst, IsTrue}
use Rattle.std.proofs.lemmas.Result.{err_from_is_err_and}
use Rattle.tb_tables.specs.Failing.{IsDiskFaultOrWant, NeedsNoFault}
use Rattle.tb_tables.proofs.Creating.{commit_fails}
use Rattle.sqlite.specs.State.{HasCleanDisk}
use Rattle.sqlite.specs.Held.{state}
use Rattle.tb_tables.specs.Changes.{Holds}
use Rattle.tb_tables.specs.Leaving.{IsFaultless}
use Rattle.tb_tables.specs.Making.{IsBlank, empty_tables}
use Rattle.tb_tables.proofs.Commands.{on_err, failed_back, begins_kept, committed_holds, blank_begins, blank_again}
use Rattle.tb_tables.proofs.Causes.{handed_on, commit_needs_none, faultless_begun, faultless_first, faultless_next}
use Rattle.tb_tables.proofs.creation.create.Goals as goal

pub returns-clause-ok : goal.returns-clause-ok
returns-clause-ok g c clean blank =
    let old = c.args.conn.now in
    let begun = c.transaction-tx.result.conn.now in
    let last = c.make_all.new.tx.conn.now in
    let end = c.commit.new.self.0 in
    let same : end ≡ c.conn-2-1.given.0 = search rules in
    let late : HasCleanDisk (state g.S.Store end) = search rules in
    let was : HasCleanDisk (state g.S.Store last) = omega (arith, c.commit.ensures.survives.clean) in
    let made = c.in_ok-make_all.ensures.ok was (blank_begins g.S.Store old begun c.transaction-tx.ensures.begun blank) in
    let ok = c.in_ok-commit.ensures.ok late in
    subst (λ h. Holds g.S.Store h empty_tables) same (committed_holds g.S.Store last end empty_tables made.0 made.1 c.commit.ensures.ended ok.1)

pub returns-in_err-commit-clause-err : goal.returns-in_err-commit-clause-err
returns-in_err-commit-clause-err g c clean is_open = on_err c.from_residual-in_err-commit.result (λ blank.
    let old = c.args.conn.now in
    let begun = c.transaction-tx.result.conn.now in
    let last = c.make_all.new.tx.conn.now in
    let end = c.commit.new.self.0 in
    let same : end ≡ c.conn-2-1.given.0 = search rules in
    let late : HasCleanDisk (state g.S.Store end) = search rules in
    let opened = subst (λ h. IsTrue (state g.S.Store h).is_open) (sym same) is_open in
    let was : HasCleanDisk (state g.S.Store last) = omega (arith, c.commit.ensures.survives.clean) in
    let kept = begins_kept g.S.Store old begun last c.transaction-tx.ensures.begun (c.make_all.ensures.keeps_committed was) in
    let made = c.in_ok-make_all.ensures.ok was (blank_begins g.S.Store old begun c.transaction-tx.ensures.begun blank) in
    let back = failed_back g.S.Store last end _ made.0.begun (c.in_err-commit.ensures.err late) in
    subst (IsBlank g.S.Store) same (blank_again g.S.Store old last end blank kept c.commit.ensures.ended opened back))

pub returns-in_err-make_all-clause-fails : goal.returns-in_err-make_all-clause-fails
returns-in_err-make_all-clause-fails g c clean unlimited blank =
    let old = c.args.conn.now in
    let begun = c.transaction-tx.result.conn.now in
    let reported = err_from_is_err_and c.from_residual.result c.from_residual.ensures.1 in
    let was : HasCleanDisk (state g.S.Store c.make_all.new.tx.conn.now) = search rules in
    let limit : begun.step_limit ≡ None = rw c.transaction-tx.ensures.begun unlimited in
    rw reported.1 (subst IsDiskFaultOrWant (sym reported.2) (c.in_err-make_all.ensures.fails was limit (blank_begins g.S.Store old begun c.transaction-tx.ensures.begun blank)))

pub returns-in_err-commit-clause-fails : goal.returns-in_err-commit-clause-fails
returns-in_err-commit-clause-fails g c clean unlimited blank =
    let old = c.args.conn.now in
    let begun = c.transaction-tx.result.conn.now in
    let last = c.make_all.new.tx.conn.now in
    let end = c.commit.new.self.0 in
    let reported = err_from_is_err_and c.from_residual-in_err-commit.result c.from_residual-in_err-commit.ensures.1 in
    let late : HasCleanDisk (state g.S.Store end) = search rules in
    let was : HasCleanDisk (state g.S.Store last) = omega (arith, c.commit.ensures.survives.clean) in
    let made = c.in_ok-make_all.ensures.ok was (blank_begins g.S.Store old begun c.transaction-tx.ensures.begun blank) in
    rw reported.1 (subst IsDiskFaultOrWant (sym reported.2) (commit_fails (state g.S.Store last) (state g.S.Store end) _ made.0.begun (c.in_err-commit.ensures.err late)))

pub returns-in_err-make_all-clause-cause : goal.returns-in_err-make_all-clause-cause
returns-in_err-make_all-clause-cause g c clean good =
    let old = c.args.conn.now in
    let begun = c.transaction-tx.result.conn.now in
    let last = state g.S.Store c.make_all.new.tx.conn.now in
    let end = c.conn-1.given.0 in
    let was : HasCleanDisk last = search rules in
    let more : last.faults ≤ (state g.S.Store end).faults = search rules in
    let here = faultless_begun g.S.Store old begun end c.transaction-tx.ensures.begun good in
    let none = c.in_err-make_all.ensures.cause was (faultless_first (state g.S.Store begun) last (state g.S.Store end) here more) in
    handed_on NeedsNoFault c.from_residual.result c.in_err-make_all.field-0.0 c.from_residual.ensures.1 none

pub returns-in_err-commit-clause-cause : goal.returns-in_err-commit-clause-cause
returns-in_err-commit-clause-cause g c clean good =
    let old = c.args.conn.now in
    let begun = c.transaction-tx.result.conn.now in
    let last = c.make_all.new.tx.conn.now in
    let end = c.commit.new.self.0 in
    let same : end ≡ c.conn-2-1.given.0 = search rules in
    let late : HasCleanDisk (state g.S.Store end) = search rules in
    let was : HasCleanDisk (state g.S.Store last) = omega (arith, c.commit.ensures.survives.clean) in
    let here = faultless_begun g.S.Store old begun end c.transaction-tx.ensures.begun (subst (IsFaultless g.S.Store old) (sym same) good) in
    let there = faultless_next (state g.S.Store begun) (state g.S.Store last) (state g.S.Store end) here c.make_all.ensures.survives was c.commit.ensures.survives.counts in
    handed_on NeedsNoFault c.from_residual-in_err-commit.result c.in_err-commit.field-0.0 c.from_residual-in_err-commit.ensures.1 (commit_needs_none g.S.Store last end there c.in_err-commit.field-0.0 (c.in_err-commit.ensures.err late))
