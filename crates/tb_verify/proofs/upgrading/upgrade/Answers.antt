use Rattle.std.proofs.Common.{◌≡◌, ◌≤◌, None, arith, rules, sym, subst}
use Rattle.sqlite.specs.State.{HasCleanDisk, Survives}
use Rattle.sqlite.specs.Held.{state}
use Rattle.tb_tables.specs.Failing.{IsDiskFaultOrWant, NeedsNoFault}
use Rattle.tb_tables.specs.Leaving.{IsFaultless}
use Rattle.tb_tables.proofs.Causes.{handed_on, commit_needs_none, faultless_begun, faultless_first, faultless_next}
use Rattle.tb_tables.proofs.Creating.{commit_fails}
use Rattle.tb_tables.specs.Failing.{HasMetaRowids}
use Rattle.tb_verify.proofs.Begun.{first_begins, crashes_whole, LeavesDesk}
use Rattle.tb_verify.proofs.upgrading.upgrade.Goals as goal

pub returns-in_err-commit-clause-crash : goal.returns-in_err-commit-clause-crash
returns-in_err-commit-clause-crash g c =
    let old = c.args.conn.now in
    let begun = c.transaction-tx.result.conn.now in
    let last = c.change_tables.new.tx.conn.now in
    let end = c.commit.new.self.0 in
    let same : end ≡ c.conn-2-1.given.0 = search rules in
    let late = c.commit.ensures.survives.clean in
    subst (λ h. Survives (state g.S.Store old) (state g.S.Store h) (LeavesDesk g.S.Store old)) same
    (crashes_whole g.S.Store old begun last end c.transaction-tx.ensures.begun c.change_tables.ensures.survives c.commit.ensures.survives (λ clean d unpulled holds.
    let was : HasCleanDisk (state g.S.Store last) = omega (arith, clean, late) in
    let start = first_begins g.S.Store old begun d c.transaction-tx.ensures.begun holds in
    (c.in_ok-change_tables.ensures.ok was start.0).1 d unpulled start.1))

pub returns-clause-crash : goal.returns-clause-crash
returns-clause-crash g c =
    let old = c.args.conn.now in
    let begun = c.transaction-tx.result.conn.now in
    let last = c.change_tables.new.tx.conn.now in
    let end = c.commit.new.self.0 in
    let same : end ≡ c.conn-2-1.given.0 = search rules in
    let late = c.commit.ensures.survives.clean in
    subst (λ h. Survives (state g.S.Store old) (state g.S.Store h) (LeavesDesk g.S.Store old)) same
    (crashes_whole g.S.Store old begun last end c.transaction-tx.ensures.begun c.change_tables.ensures.survives c.commit.ensures.survives (λ clean d unpulled holds.
    let was : HasCleanDisk (state g.S.Store last) = omega (arith, clean, late) in
    let start = first_begins g.S.Store old begun d c.transaction-tx.ensures.begun holds in
    (c.in_ok-change_tables.ensures.ok was start.0).1 d unpulled start.1))

pub returns-in_err-change_tables-clause-cause : goal.returns-in_err-change_tables-clause-cause
returns-in_err-change_tables-clause-cause g c clean good =
    let old = c.args.conn.now in
    let begun = c.transaction-tx.result.conn.now in
    let last = state g.S.Store c.change_tables.new.tx.conn.now in
    let end = c.conn-1.given.0 in
    let was : HasCleanDisk last = search rules in
    let more : last.faults ≤ (state g.S.Store end).faults = search rules in
    let here = faultless_begun g.S.Store old begun end c.transaction-tx.ensures.begun good in
    let none = c.in_err-change_tables.ensures.cause was (faultless_first (state g.S.Store begun) last (state g.S.Store end) here more) in
    handed_on NeedsNoFault c.from_residual.result c.in_err-change_tables.field-0.0 c.from_residual.ensures.1 none

pub returns-in_err-commit-clause-cause : goal.returns-in_err-commit-clause-cause
returns-in_err-commit-clause-cause g c clean good =
    let old = c.args.conn.now in
    let begun = c.transaction-tx.result.conn.now in
    let last = c.change_tables.new.tx.conn.now in
    let end = c.commit.new.self.0 in
    let same : end ≡ c.conn-2-1.given.0 = search rules in
    let late : HasCleanDisk (state g.S.Store end) = search rules in
    let was : HasCleanDisk (state g.S.Store last) = omega (arith, c.commit.ensures.survives.clean) in
    let here = faultless_begun g.S.Store old begun end c.transaction-tx.ensures.begun (subst (IsFaultless g.S.Store old) (sym same) good) in
    let there = faultless_next (state g.S.Store begun) (state g.S.Store last) (state g.S.Store end) here c.change_tables.ensures.survives was c.commit.ensures.survives.counts in
    handed_on NeedsNoFault c.from_residual-in_err-commit.result c.in_err-commit.field-0.0 c.from_residual-in_err-commit.ensures.1 (commit_needs_none g.S.Store last end there c.in_err-commit.field-0.0 (c.in_err-commit.ensures.err late))

pub returns-in_err-change_tables-clause-fails : goal.returns-in_err-change_tables-clause-fails
returns-in_err-change_tables-clause-fails g c clean unlimited d holds unique in_range =
    let old = c.args.conn.now in
    let begun = c.transaction-tx.result.conn.now in
    let was : HasCleanDisk (state g.S.Store c.change_tables.new.tx.conn.now) = search rules in
    let start = first_begins g.S.Store old begun d c.transaction-tx.ensures.begun holds in
    let limit : (state g.S.Store begun).step_limit ≡ None = rw c.transaction-tx.ensures.begun unlimited in
    let numbered : HasMetaRowids (state g.S.Store begun).now.trees = rw c.transaction-tx.ensures.begun in_range in
    handed_on IsDiskFaultOrWant c.from_residual.result c.in_err-change_tables.field-0.0 c.from_residual.ensures.1 (c.in_err-change_tables.ensures.fails was limit start.0 d start.1 unique numbered)

pub returns-in_err-commit-clause-fails : goal.returns-in_err-commit-clause-fails
returns-in_err-commit-clause-fails g c clean unlimited d holds unique in_range =
    let old = c.args.conn.now in
    let begun = c.transaction-tx.result.conn.now in
    let last = c.change_tables.new.tx.conn.now in
    let end = c.commit.new.self.0 in
    let late : HasCleanDisk (state g.S.Store end) = search rules in
    let was : HasCleanDisk (state g.S.Store last) = omega (arith, c.commit.ensures.survives.clean) in
    let start = first_begins g.S.Store old begun d c.transaction-tx.ensures.begun holds in
    let made = (c.in_ok-change_tables.ensures.ok was start.0).0 in
    let fails = commit_fails (state g.S.Store last) (state g.S.Store end) _ made.begun (c.in_err-commit.ensures.err late) in
    handed_on IsDiskFaultOrWant c.from_residual-in_err-commit.result c.in_err-commit.field-0.0 c.from_residual-in_err-commit.ensures.1 fails
