use Rattle.std.proofs.Common.{◌≡◌, ◌-◌, Some, slice_get, subst, refl, arith, ◌∙◌}
use Rattle.sqlite.specs.State.{HasCleanDisk}
use Rattle.sqlite.specs.Held.{state}
use Rattle.tb_tables.specs.Records.{Batch}
use Rattle.tb_tables.specs.Changes.{batch_replaced}
use Rattle.tb_tables.specs.Commands.{after_event}
use Rattle.tb_tables.specs.Values.{move_of, total_of}
use Rattle.tb_tables.proofs.WriteCommands.{changes_then}
use Rattle.tb_tables.proofs.Numbers.{follows_too}
use Rattle.tb_tables.specs.Failing.{IsStoreFault, IsWant, IsShort, NeedsNoFault}
use Rattle.tb_tables.proofs.Apart.{unique_stepped}
use Rattle.tb_tables.proofs.WriteFaults.{handed_on, second_blames}
use Rattle.tb_tables.proofs.stepping.step.Goals as goal

pub returns-clause-ok : goal.returns-clause-ok
returns-clause-ok g c clean inside d b is follows stands =
    let old = state g.S.Store c.args.tx.now.conn.now in
    let mid = state g.S.Store c.update_batch.new.tx.conn.now in
    let new = state g.S.Store c.record.new.tx.conn.now in
    let change = c.args.change.now in
    let was : HasCleanDisk mid = omega (arith, c.record.ensures.survives.clean) in
    let between = batch_replaced d c.args.number (record b { state = c.args.in_state; worker = c.args.worker.now }) in
    let one = c.in_ok-update_batch.ensures.ok was inside d b is stands in
    let two = c.in_ok-record.ensures.ok clean one.inside between (follows_too d between change refl refl follows) (one.stands stands) in
    changes_then old mid new d between (after_event d c.args.number b c.args.in_state c.args.worker.now (move_of change.row) (total_of change.left) (total_of change.reached)) one two

pub returns-in_err-update_batch-clause-wants : goal.returns-in_err-update_batch-clause-wants
returns-in_err-update_batch-clause-wants g c good clean unlimited inside d b is follows stands unique name worker who =
    let named : (x : Batch) → slice_get d.batches (c.args.number - 1) ≡ Some x → IsShort x.name = λ x there. subst (λ (y : Batch). IsShort y.name) (let same : b ≡ x = (let e = is in let f = there in cc) in same) name in
    handed_on IsWant c.from_residual.result c.in_err-update_batch.field-0.0 c.from_residual.ensures.1 (c.in_err-update_batch.ensures.wants good clean unlimited inside d stands unique worker named)

pub returns-in_err-record-clause-fails : goal.returns-in_err-record-clause-fails
returns-in_err-record-clause-fails g c clean unlimited inside d b is follows stands unique =
    let mid = state g.S.Store c.update_batch.new.tx.conn.now in
    let was : HasCleanDisk mid = omega (arith, c.record.ensures.survives.clean) in
    let between = batch_replaced d c.args.number (record b { state = c.args.in_state; worker = c.args.worker.now }) in
    let one = c.in_ok-update_batch.ensures.ok was inside d b is stands in
    let free = c.update_batch.ensures.survives.limit ∙ unlimited in
    let fault = c.in_err-record.ensures.fails clean free one.inside between (follows_too d between c.args.change.now refl refl follows) (one.stands stands) (unique_stepped d c.args.number b c.args.in_state c.args.worker.now is unique) in
    handed_on IsStoreFault c.from_residual-in_err-record.result c.in_err-record.field-0.0 c.from_residual-in_err-record.ensures.1 fault

pub returns-in_err-record-clause-wants : goal.returns-in_err-record-clause-wants
returns-in_err-record-clause-wants g c good clean unlimited inside d b is follows stands unique name worker who =
    let mid = state g.S.Store c.update_batch.new.tx.conn.now in
    let was : HasCleanDisk mid = omega (arith, c.record.ensures.survives.clean) in
    let between = batch_replaced d c.args.number (record b { state = c.args.in_state; worker = c.args.worker.now }) in
    let one = c.in_ok-update_batch.ensures.ok was inside d b is stands in
    let free = c.update_batch.ensures.survives.limit ∙ unlimited in
    second_blames g.S.Store c.args.tx.now.conn.now c.update_batch.new.tx.conn.now c.record.new.tx.conn.now IsWant c.from_residual-in_err-record.result c.in_err-record.field-0.0 c.from_residual-in_err-record.ensures.1 c.update_batch.ensures.survives c.record.ensures.survives (λ still whole. c.in_err-record.ensures.wants whole still free one.inside between (follows_too d between c.args.change.now refl refl follows) (one.stands stands) (unique_stepped d c.args.number b c.args.in_state c.args.worker.now is unique) who) clean good

pub returns-in_err-record-clause-cause : goal.returns-in_err-record-clause-cause
returns-in_err-record-clause-cause g c clean good =
    second_blames g.S.Store c.args.tx.now.conn.now c.update_batch.new.tx.conn.now c.record.new.tx.conn.now NeedsNoFault c.from_residual-in_err-record.result c.in_err-record.field-0.0 c.from_residual-in_err-record.ensures.1
    c.update_batch.ensures.survives c.record.ensures.survives c.in_err-record.ensures.cause clean good
