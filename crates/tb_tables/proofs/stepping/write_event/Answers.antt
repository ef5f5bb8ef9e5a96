use Rattle.tb_tables.specs.Leaving.{IsFaultless}
use Rattle.tb_tables.specs.Failing.{NeedsNoFault, IsWant}
use Rattle.tb_tables.proofs.WriteFaults.{begins_unlimited, inside_blames, commit_blames, commit_wants}
use Rattle.std.proofs.Common.{◌≡◌, ◌-◌, Some, slice_get, arith, rules, sym, subst, IsTrue, ◌≤◌}
use Rattle.sqlite.specs.Tree.{Trees}
use Rattle.sqlite.specs.State.{HasCleanDisk, Survives}
use Rattle.sqlite.specs.Held.{state}
use Rattle.tb_tables.specs.Records.{Tables, Batch, AreStored}
use Rattle.tb_tables.specs.Changes.{Holds}
use Rattle.tb_tables.specs.Commands.{after_event}
use Rattle.tb_tables.specs.Values.{move_of, total_of}
use Rattle.tb_tables.specs.Premises.{Follows}
use Rattle.tb_tables.proofs.WriteCommands.{on_err, begins_inside, committed_holds, failed_holds, command_survives}
use Rattle.tb_tables.proofs.stepping.write_event.Goals as goal

pub returns-clause-ok : goal.returns-clause-ok
returns-clause-ok g c clean d holds b is follows =
    let old = c.args.conn.now in
    let begun = c.transaction-tx.result.conn.now in
    let last = c.step.new.tx.conn.now in
    let end = c.commit.new.self.0 in
    let change = c.args.change.now in
    let same : end ≡ c.conn-2-1.given.0 = search rules in
    let late : HasCleanDisk (state g.S.Store end) = search rules in
    let was : HasCleanDisk (state g.S.Store last) = omega (arith, c.commit.ensures.survives.clean) in
    let after = after_event d c.args.number b c.args.in_state c.args.worker.now (move_of change.row) (total_of change.left) (total_of change.reached) in
    let start = begins_inside g.S.Store old begun last end c.transaction-tx.ensures.begun d holds in
    let made = c.in_ok-step.ensures.ok was start.0 d b is follows start.1 in
    let ok = c.in_ok-commit.ensures.ok late in
    subst (λ h. Holds g.S.Store h after) same (committed_holds g.S.Store old begun last end c.transaction-tx.ensures.begun d after holds made c.commit.ensures.ended ok.1)

pub returns-in_err-commit-clause-err : goal.returns-in_err-commit-clause-err
returns-in_err-commit-clause-err g c clean is_open = on_err c.from_residual-in_err-commit.result (λ d holds.
    let old = c.args.conn.now in
    let begun = c.transaction-tx.result.conn.now in
    let last = c.step.new.tx.conn.now in
    let end = c.commit.new.self.0 in
    let same : end ≡ c.conn-2-1.given.0 = search rules in
    let late : HasCleanDisk (state g.S.Store end) = search rules in
    let opened = subst (λ h. IsTrue (state g.S.Store h).is_open) (sym same) is_open in
    let was : HasCleanDisk (state g.S.Store last) = omega (arith, c.commit.ensures.survives.clean) in
    subst (λ h. Holds g.S.Store h d) same (failed_holds g.S.Store old begun last end c.transaction-tx.ensures.begun _ d holds (c.step.ensures.inside.1 was) (c.in_ok-step.ensures.inside.0 was) c.commit.ensures.ended opened (c.in_err-commit.ensures.err late)))

pub returns-clause-crash : goal.returns-clause-crash
returns-clause-crash g c =
    let old = c.args.conn.now in
    let begun = c.transaction-tx.result.conn.now in
    let last = c.step.new.tx.conn.now in
    let end = c.commit.new.self.0 in
    let change = c.args.change.now in
    let same : end ≡ c.conn-2-1.given.0 = search rules in
    let P = λ (db : Trees). (d : Tables) → Holds g.S.Store old d → (b : Batch) → slice_get d.batches (c.args.number - 1) ≡ Some b → Follows d change
    → AreStored (after_event d c.args.number b c.args.in_state c.args.worker.now (move_of change.row) (total_of change.left) (total_of change.reached)) db in
    let written : HasCleanDisk (state g.S.Store last) → P (state g.S.Store last).now.trees =
    λ was d holds b is follows.
    let start = begins_inside g.S.Store old begun last end c.transaction-tx.ensures.begun d holds in
    (c.in_ok-step.ensures.ok was start.0 d b is follows start.1).stands start.1 in
    subst (λ h. Survives (state g.S.Store old) (state g.S.Store h) P) same
    (command_survives g.S.Store old begun last end c.transaction-tx.ensures.begun P c.step.ensures.survives c.commit.ensures.survives written)

pub returns-in_err-commit-clause-crash : goal.returns-in_err-commit-clause-crash
returns-in_err-commit-clause-crash g c =
    let old = c.args.conn.now in
    let begun = c.transaction-tx.result.conn.now in
    let last = c.step.new.tx.conn.now in
    let end = c.commit.new.self.0 in
    let change = c.args.change.now in
    let same : end ≡ c.conn-2-1.given.0 = search rules in
    let P = λ (db : Trees). (d : Tables) → Holds g.S.Store old d → (b : Batch) → slice_get d.batches (c.args.number - 1) ≡ Some b → Follows d change
    → AreStored (after_event d c.args.number b c.args.in_state c.args.worker.now (move_of change.row) (total_of change.left) (total_of change.reached)) db in
    let written : HasCleanDisk (state g.S.Store last) → P (state g.S.Store last).now.trees =
    λ was d holds b is follows.
    let start = begins_inside g.S.Store old begun last end c.transaction-tx.ensures.begun d holds in
    (c.in_ok-step.ensures.ok was start.0 d b is follows start.1).stands start.1 in
    subst (λ h. Survives (state g.S.Store old) (state g.S.Store h) P) same
    (command_survives g.S.Store old begun last end c.transaction-tx.ensures.begun P c.step.ensures.survives c.commit.ensures.survives written)

pub returns-in_err-step-clause-cause : goal.returns-in_err-step-clause-cause
returns-in_err-step-clause-cause g c clean good =
    let last = c.step.new.tx.conn.now in
    let end = c.conn-1.given.0 in
    let was : HasCleanDisk (state g.S.Store last) = search rules in
    let more : (state g.S.Store last).faults ≤ (state g.S.Store end).faults = search rules in
    inside_blames g.S.Store c.args.conn.now c.transaction-tx.result.conn.now last end c.transaction-tx.ensures.begun NeedsNoFault c.from_residual.result c.in_err-step.field-0.0 c.from_residual.ensures.1
    (λ whole. c.in_err-step.ensures.cause was whole) more good

pub returns-in_err-commit-clause-cause : goal.returns-in_err-commit-clause-cause
returns-in_err-commit-clause-cause g c clean good =
    let old = c.args.conn.now in
    let last = c.step.new.tx.conn.now in
    let end = c.commit.new.self.0 in
    let same : end ≡ c.conn-2-1.given.0 = search rules in
    let late : HasCleanDisk (state g.S.Store end) = search rules in
    let whole = subst (IsFaultless g.S.Store old) (sym same) good in
    commit_blames g.S.Store old c.transaction-tx.result.conn.now last end c.transaction-tx.ensures.begun NeedsNoFault c.from_residual-in_err-commit.result c.in_err-commit.field-0.0 c.from_residual-in_err-commit.ensures.1
    (λ none. none) c.step.ensures.survives c.commit.ensures.survives (c.in_err-commit.ensures.err late) late whole

pub returns-in_err-step-clause-wants : goal.returns-in_err-step-clause-wants
returns-in_err-step-clause-wants g c good clean unlimited d holds b is follows unique name worker who =
    let old = c.args.conn.now in
    let begun = c.transaction-tx.result.conn.now in
    let last = c.step.new.tx.conn.now in
    let end = c.conn-1.given.0 in
    let was : HasCleanDisk (state g.S.Store last) = search rules in
    let more : (state g.S.Store last).faults ≤ (state g.S.Store end).faults = search rules in
    let start = begins_inside g.S.Store old begun last last c.transaction-tx.ensures.begun d holds in
    let free = begins_unlimited g.S.Store old begun c.transaction-tx.ensures.begun unlimited in
    inside_blames g.S.Store old begun last end c.transaction-tx.ensures.begun IsWant c.from_residual.result c.in_err-step.field-0.0 c.from_residual.ensures.1
    (λ whole. c.in_err-step.ensures.wants whole was free start.0 d b is follows start.1 unique name worker who) more good

pub returns-in_err-commit-clause-wants : goal.returns-in_err-commit-clause-wants
returns-in_err-commit-clause-wants g c good clean unlimited d holds b is follows unique name worker who =
    let old = c.args.conn.now in
    let begun = c.transaction-tx.result.conn.now in
    let last = c.step.new.tx.conn.now in
    let end = c.commit.new.self.0 in
    let same : end ≡ c.conn-2-1.given.0 = search rules in
    let late : HasCleanDisk (state g.S.Store end) = search rules in
    let was : HasCleanDisk (state g.S.Store last) = omega (arith, c.commit.ensures.survives.clean) in
    let whole = subst (IsFaultless g.S.Store old) (sym same) good in
    let start = begins_inside g.S.Store old begun last last c.transaction-tx.ensures.begun d holds in
    let there = c.in_ok-step.ensures.inside.0 was start.0 in
    commit_wants g.S.Store old begun last end c.transaction-tx.ensures.begun IsWant c.from_residual-in_err-commit.result c.in_err-commit.field-0.0 c.from_residual-in_err-commit.ensures.1
    there.begun c.step.ensures.survives c.commit.ensures.survives (c.in_err-commit.ensures.err late) late whole
