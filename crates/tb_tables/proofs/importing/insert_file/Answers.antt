use Rattle.std.proofs.Common.{[], length, arith, inl, ◌∙◌}
use Rattle.sqlite.specs.State.{HasCleanDisk}
use Rattle.sqlite.specs.Held.{state}
use Rattle.tb_tables.specs.Changes.{with_batch}
use Rattle.tb_tables.specs.Commands.{with_items}
use Rattle.tb_tables.proofs.WriteCommands.{changes_then}
use Rattle.tb_tables.proofs.importing.insert_file.Goals as goal
use Rattle.tb_tables.specs.Failing.{IsRoomFault, IsWant, NeedsNoFaultOnRevisions}
use Rattle.tb_tables.proofs.Apart.{unique_before}
use Rattle.tb_tables.proofs.WriteFaults.{handed_on, second_blames, rowids_after}

pub returns-clause-ok : goal.returns-clause-ok
returns-clause-ok g c clean inside d number first =
    let old = state g.S.Store c.args.tx.now.conn.now in
    let mid = state g.S.Store c.insert_batch.new.tx.conn.now in
    let new = state g.S.Store c.insert_items.new.tx.conn.now in
    let was : HasCleanDisk mid = omega (arith, c.insert_items.ensures.survives.clean) in
    let opened = with_batch d (record { name = c.args.name.now; state = 1; worker = [] }) in
    let one = c.in_ok-insert_batch.ensures.ok was inside d number in
    let two = c.in_ok-insert_items.ensures.ok clean one.inside opened first in
    changes_then old mid new d opened (with_items c.args.number c.args.who.now opened c.args.items.now) one two

pub returns-in_err-insert_batch-clause-fails : goal.returns-in_err-insert_batch-clause-fails
returns-in_err-insert_batch-clause-fails g c clean unlimited inside d stands number first unique =
    let opened = with_batch d (record { name = c.args.name.now; state = 1; worker = [] }) in
    let apart = unique_before c.args.number c.args.who.now opened c.args.items.now unique in
    let fault = c.in_err-insert_batch.ensures.fails clean unlimited inside d stands number apart in
    handed_on IsRoomFault c.from_residual.result c.in_err-insert_batch.field-0.0 c.from_residual.ensures.1 (inl fault)

pub returns-in_err-insert_batch-clause-wants : goal.returns-in_err-insert_batch-clause-wants
returns-in_err-insert_batch-clause-wants g c good clean unlimited inside d stands number first unique name who short ids =
    let opened = with_batch d (record { name = c.args.name.now; state = 1; worker = [] }) in
    let apart = unique_before c.args.number c.args.who.now opened c.args.items.now unique in
    let fault = c.in_err-insert_batch.ensures.wants good clean unlimited inside d stands number apart name (omega arith) in
    handed_on IsWant c.from_residual.result c.in_err-insert_batch.field-0.0 c.from_residual.ensures.1 fault

pub returns-in_err-insert_items-clause-wants : goal.returns-in_err-insert_items-clause-wants
returns-in_err-insert_items-clause-wants g c good clean unlimited inside d stands number first unique name who short ids =
    let old = state g.S.Store c.args.tx.now.conn.now in
    let mid = state g.S.Store c.insert_batch.new.tx.conn.now in
    let was : HasCleanDisk mid = omega (arith, c.insert_items.ensures.survives.clean) in
    let opened = with_batch d (record { name = c.args.name.now; state = 1; worker = [] }) in
    let one = c.in_ok-insert_batch.ensures.ok was inside d number in
    let free = c.insert_batch.ensures.survives.limit ∙ unlimited in
    let count = length c.args.items.now in
    let left = rowids_after old mid d opened 0 count count one (omega arith) (omega arith) ids in
    second_blames g.S.Store c.args.tx.now.conn.now c.insert_batch.new.tx.conn.now c.insert_items.new.tx.conn.now IsWant c.from_residual-in_err-insert_items.result c.in_err-insert_items.field-0.0 c.from_residual-in_err-insert_items.ensures.1
    c.insert_batch.ensures.survives c.insert_items.ensures.survives (λ still whole. c.in_err-insert_items.ensures.wants whole still free one.inside opened (one.stands stands) first unique who short left) clean good

pub returns-in_err-insert_batch-clause-cause : goal.returns-in_err-insert_batch-clause-cause
returns-in_err-insert_batch-clause-cause g c clean good = handed_on NeedsNoFaultOnRevisions c.from_residual.result c.in_err-insert_batch.field-0.0 c.from_residual.ensures.1 (inl (c.in_err-insert_batch.ensures.cause clean good))

pub returns-in_err-insert_items-clause-cause : goal.returns-in_err-insert_items-clause-cause
returns-in_err-insert_items-clause-cause g c clean good =
    second_blames g.S.Store c.args.tx.now.conn.now c.insert_batch.new.tx.conn.now c.insert_items.new.tx.conn.now NeedsNoFaultOnRevisions c.from_residual-in_err-insert_items.result c.in_err-insert_items.field-0.0 c.from_residual-in_err-insert_items.ensures.1
    c.insert_batch.ensures.survives c.insert_items.ensures.survives c.in_err-insert_items.ensures.cause clean good
