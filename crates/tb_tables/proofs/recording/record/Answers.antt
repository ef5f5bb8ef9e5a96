use Rattle.std.proofs.Common.{◌≡◌, ◌≤◌, length, arith, ◌∙◌}
use Rattle.sqlite.specs.State.{HasCleanDisk}
use Rattle.sqlite.specs.Held.{state}
use Rattle.tb_tables.specs.Changes.{with_move}
use Rattle.tb_tables.specs.Commands.{with_total}
use Rattle.tb_tables.specs.Values.{move_of, total_of}
use Rattle.tb_tables.proofs.WriteCommands.{changes_then}
use Rattle.tb_tables.proofs.Numbers.{total_count}
use Rattle.tb_tables.specs.Failing.{IsStoreFault, IsWant, NeedsNoFault}
use Rattle.tb_tables.proofs.Apart.{unique_moved, unique_total}
use Rattle.tb_tables.proofs.WriteFaults.{handed_on, second_blames, both_survive}
use Rattle.tb_tables.proofs.recording.record.Goals as goal

pub returns-clause-ok : goal.returns-clause-ok
returns-clause-ok g c clean inside d follows stands =
    let old = state g.S.Store c.args.tx.now.conn.now in
    let first = state g.S.Store c.insert_move.new.tx.conn.now in
    let second = state g.S.Store c.write_total.new.tx.conn.now in
    let new = state g.S.Store c.write_total-2.new.tx.conn.now in
    let change = c.args.change.now in
    let later : HasCleanDisk second = omega (arith, c.write_total-2.ensures.survives.clean) in
    let early : HasCleanDisk first = omega (arith, c.write_total.ensures.survives.clean) in
    let moved = with_move d (move_of change.row) in
    let left = with_total moved change.row.from (total_of change.left) in
    let after = with_total left change.row.to (total_of change.reached) in
    let one = c.in_ok-insert_move.ensures.ok early inside d follows.number in
    let two = c.in_ok-write_total.ensures.ok later one.inside moved follows.left (one.stands stands) in
    let count : length left.totals ≡ length d.totals = total_count moved change.row.from (total_of change.left) in
    let low : change.row.to ≤ length left.totals = omega (arith, count, follows.reached) in
    let three = c.in_ok-write_total-2.ensures.ok clean two.inside left low (two.stands (one.stands stands)) in
    changes_then old first new d moved after one (changes_then first second new moved left after two three)

pub returns-in_err-write_total-clause-fails : goal.returns-in_err-write_total-clause-fails
returns-in_err-write_total-clause-fails g c clean unlimited inside d follows stands unique =
    let first = state g.S.Store c.insert_move.new.tx.conn.now in
    let change = c.args.change.now in
    let early : HasCleanDisk first = omega (arith, c.write_total.ensures.survives.clean) in
    let moved = with_move d (move_of change.row) in
    let one = c.in_ok-insert_move.ensures.ok early inside d follows.number in
    let free = c.insert_move.ensures.survives.limit ∙ unlimited in
    let fault = c.in_err-write_total.ensures.fails clean free one.inside moved (one.stands stands) (unique_moved d _ unique) in
    handed_on IsStoreFault c.from_residual-in_err-write_total.result c.in_err-write_total.field-0.0 c.from_residual-in_err-write_total.ensures.1 fault

pub returns-in_err-write_total-clause-wants : goal.returns-in_err-write_total-clause-wants
returns-in_err-write_total-clause-wants g c good clean unlimited inside d follows stands unique who =
    let first = state g.S.Store c.insert_move.new.tx.conn.now in
    let change = c.args.change.now in
    let early : HasCleanDisk first = omega (arith, c.write_total.ensures.survives.clean) in
    let moved = with_move d (move_of change.row) in
    let one = c.in_ok-insert_move.ensures.ok early inside d follows.number in
    let free = c.insert_move.ensures.survives.limit ∙ unlimited in
    second_blames g.S.Store c.args.tx.now.conn.now c.insert_move.new.tx.conn.now c.write_total.new.tx.conn.now IsWant c.from_residual-in_err-write_total.result c.in_err-write_total.field-0.0 c.from_residual-in_err-write_total.ensures.1 c.insert_move.ensures.survives c.write_total.ensures.survives (λ still whole. c.in_err-write_total.ensures.wants whole still free one.inside moved (one.stands stands) (unique_moved d _ unique)) clean good

pub returns-in_err-write_total-2-clause-fails : goal.returns-in_err-write_total-2-clause-fails
returns-in_err-write_total-2-clause-fails g c clean unlimited inside d follows stands unique =
    let first = state g.S.Store c.insert_move.new.tx.conn.now in
    let second = state g.S.Store c.write_total.new.tx.conn.now in
    let change = c.args.change.now in
    let later : HasCleanDisk second = omega (arith, c.write_total-2.ensures.survives.clean) in
    let early : HasCleanDisk first = omega (arith, c.write_total.ensures.survives.clean) in
    let moved = with_move d (move_of change.row) in
    let left = with_total moved change.row.from (total_of change.left) in
    let one = c.in_ok-insert_move.ensures.ok early inside d follows.number in
    let two = c.in_ok-write_total.ensures.ok later one.inside moved follows.left (one.stands stands) in
    let free = c.write_total.ensures.survives.limit ∙ c.insert_move.ensures.survives.limit ∙ unlimited in
    let apart = unique_total moved change.row.from (total_of change.left) (unique_moved d _ unique) in
    let fault = c.in_err-write_total-2.ensures.fails clean free two.inside left (two.stands (one.stands stands)) apart in
    handed_on IsStoreFault c.from_residual-in_err-write_total-2.result c.in_err-write_total-2.field-0.0 c.from_residual-in_err-write_total-2.ensures.1 fault

pub returns-in_err-write_total-2-clause-wants : goal.returns-in_err-write_total-2-clause-wants
returns-in_err-write_total-2-clause-wants g c good clean unlimited inside d follows stands unique who =
    let first = state g.S.Store c.insert_move.new.tx.conn.now in
    let second = state g.S.Store c.write_total.new.tx.conn.now in
    let change = c.args.change.now in
    let later : HasCleanDisk second = omega (arith, c.write_total-2.ensures.survives.clean) in
    let early : HasCleanDisk first = omega (arith, c.write_total.ensures.survives.clean) in
    let moved = with_move d (move_of change.row) in
    let left = with_total moved change.row.from (total_of change.left) in
    let one = c.in_ok-insert_move.ensures.ok early inside d follows.number in
    let two = c.in_ok-write_total.ensures.ok later one.inside moved follows.left (one.stands stands) in
    let free = c.write_total.ensures.survives.limit ∙ c.insert_move.ensures.survives.limit ∙ unlimited in
    let apart = unique_total moved change.row.from (total_of change.left) (unique_moved d _ unique) in
    second_blames g.S.Store c.args.tx.now.conn.now c.write_total.new.tx.conn.now c.write_total-2.new.tx.conn.now IsWant c.from_residual-in_err-write_total-2.result c.in_err-write_total-2.field-0.0 c.from_residual-in_err-write_total-2.ensures.1 (both_survive (state g.S.Store c.args.tx.now.conn.now) (state g.S.Store c.insert_move.new.tx.conn.now) (state g.S.Store c.write_total.new.tx.conn.now) c.insert_move.ensures.survives c.write_total.ensures.survives) c.write_total-2.ensures.survives (λ still whole. c.in_err-write_total-2.ensures.wants whole still free two.inside left (two.stands (one.stands stands)) apart) clean good

pub returns-in_err-write_total-clause-cause : goal.returns-in_err-write_total-clause-cause
returns-in_err-write_total-clause-cause g c clean good =
    second_blames g.S.Store c.args.tx.now.conn.now c.insert_move.new.tx.conn.now c.write_total.new.tx.conn.now NeedsNoFault c.from_residual-in_err-write_total.result c.in_err-write_total.field-0.0 c.from_residual-in_err-write_total.ensures.1
    c.insert_move.ensures.survives c.write_total.ensures.survives c.in_err-write_total.ensures.cause clean good

pub returns-in_err-write_total-2-clause-cause : goal.returns-in_err-write_total-2-clause-cause
returns-in_err-write_total-2-clause-cause g c clean good =
    second_blames g.S.Store c.args.tx.now.conn.now c.write_total.new.tx.conn.now c.write_total-2.new.tx.conn.now NeedsNoFault c.from_residual-in_err-write_total-2.result c.in_err-write_total-2.field-0.0 c.from_residual-in_err-write_total-2.ensures.1
    (both_survive (state g.S.Store c.args.tx.now.conn.now) (state g.S.Store c.insert_move.new.tx.conn.now) (state g.S.Store c.write_total.new.tx.conn.now) c.insert_move.ensures.survives c.write_total.ensures.survives) c.write_total-2.ensures.survives c.in_err-write_total-2.ensures.cause clean good
