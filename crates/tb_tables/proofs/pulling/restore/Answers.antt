use Rattle.std.proofs.Common.{refl, arith, ◌∙◌}
use Rattle.sqlite.specs.State.{HasCleanDisk}
use Rattle.sqlite.specs.Held.{state}
use Rattle.tb_tables.specs.Changes.{without_pulled}
use Rattle.tb_tables.specs.Commands.{after_restore}
use Rattle.tb_tables.specs.Values.{move_of, total_of}
use Rattle.tb_tables.proofs.WriteCommands.{changes_then}
use Rattle.tb_tables.proofs.Numbers.{follows_too}
use Rattle.tb_tables.specs.Failing.{IsStoreFault, IsWant, NeedsNoFault}
use Rattle.tb_tables.proofs.Apart.{unique_restored}
use Rattle.tb_tables.proofs.WriteFaults.{handed_on, second_blames}
use Rattle.tb_tables.proofs.pulling.restore.Goals as goal

pub returns-clause-ok : goal.returns-clause-ok
returns-clause-ok g c clean inside d follows stands =
    let old = state g.S.Store c.args.tx.now.conn.now in
    let mid = state g.S.Store c.delete_pulled.new.tx.conn.now in
    let new = state g.S.Store c.record.new.tx.conn.now in
    let change = c.args.change.now in
    let was : HasCleanDisk mid = omega (arith, c.record.ensures.survives.clean) in
    let between = without_pulled d c.args.number in
    let one = c.in_ok-delete_pulled.ensures.ok was inside d stands in
    let two = c.in_ok-record.ensures.ok clean one.inside between (follows_too d between change refl refl follows) (one.stands stands) in
    changes_then old mid new d between (after_restore d c.args.number (move_of change.row) (total_of change.left) (total_of change.reached)) one two

pub returns-in_err-record-clause-fails : goal.returns-in_err-record-clause-fails
returns-in_err-record-clause-fails g c clean unlimited inside d follows stands unique =
    let mid = state g.S.Store c.delete_pulled.new.tx.conn.now in
    let was : HasCleanDisk mid = omega (arith, c.record.ensures.survives.clean) in
    let between = without_pulled d c.args.number in
    let one = c.in_ok-delete_pulled.ensures.ok was inside d stands in
    let free = c.delete_pulled.ensures.survives.limit ∙ unlimited in
    let fault = c.in_err-record.ensures.fails clean free one.inside between (follows_too d between c.args.change.now refl refl follows) (one.stands stands) (unique_restored d c.args.number unique) in
    handed_on IsStoreFault c.from_residual-in_err-record.result c.in_err-record.field-0.0 c.from_residual-in_err-record.ensures.1 fault

pub returns-in_err-record-clause-wants : goal.returns-in_err-record-clause-wants
returns-in_err-record-clause-wants g c good clean unlimited inside d follows stands unique who =
    let mid = state g.S.Store c.delete_pulled.new.tx.conn.now in
    let was : HasCleanDisk mid = omega (arith, c.record.ensures.survives.clean) in
    let between = without_pulled d c.args.number in
    let one = c.in_ok-delete_pulled.ensures.ok was inside d stands in
    let free = c.delete_pulled.ensures.survives.limit ∙ unlimited in
    second_blames g.S.Store c.args.tx.now.conn.now c.delete_pulled.new.tx.conn.now c.record.new.tx.conn.now IsWant c.from_residual-in_err-record.result c.in_err-record.field-0.0 c.from_residual-in_err-record.ensures.1 c.delete_pulled.ensures.survives c.record.ensures.survives (λ still whole. c.in_err-record.ensures.wants whole still free one.inside between (follows_too d between c.args.change.now refl refl follows) (one.stands stands) (unique_restored d c.args.number unique) who) clean good

pub returns-in_err-record-clause-cause : goal.returns-in_err-record-clause-cause
returns-in_err-record-clause-cause g c clean good =
    second_blames g.S.Store c.args.tx.now.conn.now c.delete_pulled.new.tx.conn.now c.record.new.tx.conn.now NeedsNoFault c.from_residual-in_err-record.result c.in_err-record.field-0.0 c.from_residual-in_err-record.ensures.1
    c.delete_pulled.ensures.survives c.record.ensures.survives c.in_err-record.ensures.cause clean good
