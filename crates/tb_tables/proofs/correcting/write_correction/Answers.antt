use Rattle.tb_tables.specs.Leaving.{IsFaultless}
use Rattle.std.proofs.Common.{◌≡◌, ◌-◌, Some, slice_get, arith, rules, sym, subst, IsTrue, inl, ◌≤◌}
use Rattle.sqlite.specs.Tree.{Trees}
use Rattle.sqlite.specs.State.{HasCleanDisk, Survives}
use Rattle.sqlite.specs.Held.{state}
use Rattle.tb_tables.specs.Records.{Tables, Sentence, AreStored}
use Rattle.tb_tables.specs.Changes.{Holds}
use Rattle.tb_tables.specs.Commands.{after_correction}
use Rattle.tb_tables.specs.Revising.{revision_written}
use Rattle.tb_tables.specs.Values.{move_of, total_of}
use Rattle.tb_tables.specs.Premises.{Follows}
use Rattle.tb_tables.proofs.WriteCommands.{on_err, begins_inside, committed_holds, failed_holds, command_survives}
use Rattle.tb_tables.specs.Failing.{IsRoomFault, IsWant, NeedsNoFaultOnRevisions}
use Rattle.tb_tables.proofs.WriteFaults.{handed_on, begins_unlimited, inside_blames, commit_blames, commit_wants, rowids_begun}
use Rattle.tb_tables.proofs.correcting.write_correction.Goals as goal

pub returns-clause-ok : goal.returns-clause-ok
returns-clause-ok g c clean d holds s is follows =
    let old = c.args.conn.now in
    let begun = c.transaction-tx.result.conn.now in
    let last = c.correct.new.tx.conn.now in
    let end = c.commit.new.self.0 in
    let change = c.args.change.now in
    let same : end ≡ c.conn-2-1.given.0 = search rules in
    let late : HasCleanDisk (state g.S.Store end) = search rules in
    let was : HasCleanDisk (state g.S.Store last) = omega (arith, c.commit.ensures.survives.clean) in
    let after = after_correction d c.args.revision.now.sent s (revision_written c.args.revision.now) c.args.revision.now.words (move_of change.row) (total_of change.left) (total_of change.reached) in
    let start = begins_inside g.S.Store old begun last end c.transaction-tx.ensures.begun d holds in
    let made = c.in_ok-correct.ensures.ok was start.0 d s is follows start.1 in
    let ok = c.in_ok-commit.ensures.ok late in
    subst (λ h. Holds g.S.Store h after) same (committed_holds g.S.Store old begun last end c.transaction-tx.ensures.begun d after holds made c.commit.ensures.ended ok.1)

pub returns-in_err-commit-clause-err : goal.returns-in_err-commit-clause-err
returns-in_err-commit-clause-err g c clean is_open = on_err c.from_residual-in_err-commit.result (λ d holds.
    let old = c.args.conn.now in
    let begun = c.transaction-tx.result.conn.now in
    let last = c.correct.new.tx.conn.now in
    let end = c.commit.new.self.0 in
    let same : end ≡ c.conn-2-1.given.0 = search rules in
    let late : HasCleanDisk (state g.S.Store end) = search rules in
    let opened = subst (λ h. IsTrue (state g.S.Store h).is_open) (sym same) is_open in
    let was : HasCleanDisk (state g.S.Store last) = omega (arith, c.commit.ensures.survives.clean) in
    subst (λ h. Holds g.S.Store h d) same (failed_holds g.S.Store old begun last end c.transaction-tx.ensures.begun _ d holds (c.correct.ensures.inside.1 was) (c.in_ok-correct.ensures.inside.0 was) c.commit.ensures.ended opened (c.in_err-commit.ensures.err late)))

pub returns-clause-crash : goal.returns-clause-crash
returns-clause-crash g c =
    let old = c.args.conn.now in
    let begun = c.transaction-tx.result.conn.now in
    let last = c.correct.new.tx.conn.now in
    let end = c.commit.new.self.0 in
    let change = c.args.change.now in
    let same : end ≡ c.conn-2-1.given.0 = search rules in
    let P = λ (db : Trees). (d : Tables) → Holds g.S.Store old d → (s : Sentence) → slice_get d.sentences (c.args.revision.now.sent - 1) ≡ Some s → Follows d change → AreStored (after_correction d c.args.revision.now.sent s (revision_written c.args.revision.now) c.args.revision.now.words (move_of change.row) (total_of change.left) (total_of change.reached)) db in
    let written : HasCleanDisk (state g.S.Store last) → P (state g.S.Store last).now.trees =
    λ was d holds s is follows.
    let start = begins_inside g.S.Store old begun last end c.transaction-tx.ensures.begun d holds in
    (c.in_ok-correct.ensures.ok was start.0 d s is follows start.1).stands start.1 in
    subst (λ h. Survives (state g.S.Store old) (state g.S.Store h) P) same
    (command_survives g.S.Store old begun last end c.transaction-tx.ensures.begun P c.correct.ensures.survives c.commit.ensures.survives written)

pub returns-in_err-commit-clause-crash : goal.returns-in_err-commit-clause-crash
returns-in_err-commit-clause-crash g c =
    let old = c.args.conn.now in
    let begun = c.transaction-tx.result.conn.now in
    let last = c.correct.new.tx.conn.now in
    let end = c.commit.new.self.0 in
    let change = c.args.change.now in
    let same : end ≡ c.conn-2-1.given.0 = search rules in
    let P = λ (db : Trees). (d : Tables) → Holds g.S.Store old d → (s : Sentence) → slice_get d.sentences (c.args.revision.now.sent - 1) ≡ Some s → Follows d change → AreStored (after_correction d c.args.revision.now.sent s (revision_written c.args.revision.now) c.args.revision.now.words (move_of change.row) (total_of change.left) (total_of change.reached)) db in
    let written : HasCleanDisk (state g.S.Store last) → P (state g.S.Store last).now.trees =
    λ was d holds s is follows.
    let start = begins_inside g.S.Store old begun last end c.transaction-tx.ensures.begun d holds in
    (c.in_ok-correct.ensures.ok was start.0 d s is follows start.1).stands start.1 in
    subst (λ h. Survives (state g.S.Store old) (state g.S.Store h) P) same
    (command_survives g.S.Store old begun last end c.transaction-tx.ensures.begun P c.correct.ensures.survives c.commit.ensures.survives written)

pub returns-in_err-correct-clause-fails : goal.returns-in_err-correct-clause-fails
returns-in_err-correct-clause-fails g c clean unlimited d holds s is follows unique =
    let old = c.args.conn.now in
    let begun = c.transaction-tx.result.conn.now in
    let last = c.correct.new.tx.conn.now in
    let late : HasCleanDisk (state g.S.Store c.drop-tx.new.self.0) = search rules in
    let was : HasCleanDisk (state g.S.Store last) = omega (arith, c.drop-tx.ensures.survives.clean) in
    let start = begins_inside g.S.Store old begun last last c.transaction-tx.ensures.begun d holds in
    let free = begins_unlimited g.S.Store old begun c.transaction-tx.ensures.begun unlimited in
    let fault = c.in_err-correct.ensures.fails was free start.0 d s is follows start.1 unique in
    handed_on IsRoomFault c.from_residual.result c.in_err-correct.field-0.0 c.from_residual.ensures.1 fault

pub returns-in_err-correct-clause-cause : goal.returns-in_err-correct-clause-cause
returns-in_err-correct-clause-cause g c clean good =
    let last = c.correct.new.tx.conn.now in
    let end = c.conn-1.given.0 in
    let was : HasCleanDisk (state g.S.Store last) = search rules in
    let more : (state g.S.Store last).faults ≤ (state g.S.Store end).faults = search rules in
    inside_blames g.S.Store c.args.conn.now c.transaction-tx.result.conn.now last end c.transaction-tx.ensures.begun NeedsNoFaultOnRevisions c.from_residual.result c.in_err-correct.field-0.0 c.from_residual.ensures.1
    (λ whole. c.in_err-correct.ensures.cause was whole) more good

pub returns-in_err-commit-clause-cause : goal.returns-in_err-commit-clause-cause
returns-in_err-commit-clause-cause g c clean good =
    let old = c.args.conn.now in
    let last = c.correct.new.tx.conn.now in
    let end = c.commit.new.self.0 in
    let same : end ≡ c.conn-2-1.given.0 = search rules in
    let late : HasCleanDisk (state g.S.Store end) = search rules in
    let whole = subst (IsFaultless g.S.Store old) (sym same) good in
    commit_blames g.S.Store old c.transaction-tx.result.conn.now last end c.transaction-tx.ensures.begun NeedsNoFaultOnRevisions c.from_residual-in_err-commit.result c.in_err-commit.field-0.0 c.from_residual-in_err-commit.ensures.1
    inl c.correct.ensures.survives c.commit.ensures.survives (c.in_err-commit.ensures.err late) late whole

pub returns-in_err-correct-clause-wants : goal.returns-in_err-correct-clause-wants
returns-in_err-correct-clause-wants g c good clean unlimited d holds s is follows unique name who body mover ids =
    let old = c.args.conn.now in
    let begun = c.transaction-tx.result.conn.now in
    let last = c.correct.new.tx.conn.now in
    let end = c.conn-1.given.0 in
    let was : HasCleanDisk (state g.S.Store last) = search rules in
    let more : (state g.S.Store last).faults ≤ (state g.S.Store end).faults = search rules in
    let start = begins_inside g.S.Store old begun last last c.transaction-tx.ensures.begun d holds in
    let free = begins_unlimited g.S.Store old begun c.transaction-tx.ensures.begun unlimited in
    inside_blames g.S.Store old begun last end c.transaction-tx.ensures.begun IsWant c.from_residual.result c.in_err-correct.field-0.0 c.from_residual.ensures.1
    (λ whole. c.in_err-correct.ensures.wants whole was free start.0 d s is follows start.1 unique name who body mover (rowids_begun g.S.Store old begun 1 c.transaction-tx.ensures.begun ids)) more good

pub returns-in_err-commit-clause-wants : goal.returns-in_err-commit-clause-wants
returns-in_err-commit-clause-wants g c good clean unlimited d holds s is follows unique name who body mover ids =
    let old = c.args.conn.now in
    let begun = c.transaction-tx.result.conn.now in
    let last = c.correct.new.tx.conn.now in
    let end = c.commit.new.self.0 in
    let same : end ≡ c.conn-2-1.given.0 = search rules in
    let late : HasCleanDisk (state g.S.Store end) = search rules in
    let was : HasCleanDisk (state g.S.Store last) = omega (arith, c.commit.ensures.survives.clean) in
    let whole = subst (IsFaultless g.S.Store old) (sym same) good in
    let start = begins_inside g.S.Store old begun last last c.transaction-tx.ensures.begun d holds in
    let there = c.in_ok-correct.ensures.inside.0 was start.0 in
    commit_wants g.S.Store old begun last end c.transaction-tx.ensures.begun IsWant c.from_residual-in_err-commit.result c.in_err-commit.field-0.0 c.from_residual-in_err-commit.ensures.1
    there.begun c.correct.ensures.survives c.commit.ensures.survives (c.in_err-commit.ensures.err late) late whole
