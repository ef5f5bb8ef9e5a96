use Rattle.std.proofs.Common.{ℕ, [], arith, subst, sym, inl, ◌∙◌}
use Rattle.sqlite.specs.State.{HasCleanDisk}
use Rattle.sqlite.specs.Held.{state}
use Rattle.tb_tables.specs.Records.{Tables}
use Rattle.tb_tables.specs.Changes.{Changes, with_batch}
use Rattle.tb_tables.specs.Commands.{with_items, recorded}
use Rattle.tb_tables.specs.Values.{move_of, total_of}
use Rattle.tb_tables.proofs.WriteCommands.{changes_then}
use Rattle.tb_tables.proofs.Numbers.{items_keep, follows_too}
use Rattle.tb_tables.proofs.importing.import.Goals as goal
use Rattle.tb_tables.specs.Failing.{IsRoomFault, IsWant, AreUnique, NeedsNoFaultOnRevisions}
use Rattle.tb_tables.proofs.Apart.{unique_unrecorded}
use Rattle.tb_tables.proofs.WriteFaults.{handed_on, second_blames}

pub returns-clause-ok : goal.returns-clause-ok
returns-clause-ok g c clean inside d number first follows stands =
    let old = state g.S.Store c.args.tx.now.conn.now in
    let mid = state g.S.Store c.insert_file.new.tx.conn.now in
    let new = state g.S.Store c.record.new.tx.conn.now in
    let change = c.args.change.now in
    let was : HasCleanDisk mid = omega (arith, c.record.ensures.survives.clean) in
    let opened = with_batch d (record { name = c.args.name.now; state = 1; worker = [] }) in
    let filled : ℕ → Tables = λ n. with_items n c.args.who.now opened c.args.items.now in
    let finished : ℕ → Tables = λ n. recorded (filled n) (move_of change.row) (total_of change.left) (total_of change.reached) in
    let between = filled c.args.number in
    let kept = items_keep c.args.number c.args.who.now opened c.args.items.now in
    let one = c.in_ok-insert_file.ensures.ok was inside d number first in
    let two = c.in_ok-record.ensures.ok clean one.inside between (follows_too d between change kept.0 kept.1 follows) (one.stands stands) in
    subst (λ n. Changes old new d (finished n)) number (changes_then old mid new d between (finished c.args.number) one two)

pub returns-in_err-insert_file-clause-fails : goal.returns-in_err-insert_file-clause-fails
returns-in_err-insert_file-clause-fails g c clean unlimited inside d stands number first follows unique =
    let change = c.args.change.now in
    let opened = with_batch d (record { name = c.args.name.now; state = 1; worker = [] }) in
    let filled : ℕ → Tables = λ n. with_items n c.args.who.now opened c.args.items.now in
    let all = unique_unrecorded _ (move_of change.row) (total_of change.left) (total_of change.reached) unique in
    let apart = subst (λ n. AreUnique (filled n)) (sym number) all in
    let fault = c.in_err-insert_file.ensures.fails clean unlimited inside d stands number first apart in
    handed_on IsRoomFault c.from_residual.result c.in_err-insert_file.field-0.0 c.from_residual.ensures.1 fault

pub returns-in_err-insert_file-clause-wants : goal.returns-in_err-insert_file-clause-wants
returns-in_err-insert_file-clause-wants g c good clean unlimited inside d stands number first follows unique name who short mover ids =
    let change = c.args.change.now in
    let opened = with_batch d (record { name = c.args.name.now; state = 1; worker = [] }) in
    let filled : ℕ → Tables = λ n. with_items n c.args.who.now opened c.args.items.now in
    let all = unique_unrecorded _ (move_of change.row) (total_of change.left) (total_of change.reached) unique in
    let apart = subst (λ n. AreUnique (filled n)) (sym number) all in
    let fault = c.in_err-insert_file.ensures.wants good clean unlimited inside d stands number first apart name who short ids in
    handed_on IsWant c.from_residual.result c.in_err-insert_file.field-0.0 c.from_residual.ensures.1 fault

pub returns-in_err-record-clause-fails : goal.returns-in_err-record-clause-fails
returns-in_err-record-clause-fails g c clean unlimited inside d stands number first follows unique =
    let mid = state g.S.Store c.insert_file.new.tx.conn.now in
    let change = c.args.change.now in
    let was : HasCleanDisk mid = omega (arith, c.record.ensures.survives.clean) in
    let opened = with_batch d (record { name = c.args.name.now; state = 1; worker = [] }) in
    let filled : ℕ → Tables = λ n. with_items n c.args.who.now opened c.args.items.now in
    let between = filled c.args.number in
    let kept = items_keep c.args.number c.args.who.now opened c.args.items.now in
    let all = unique_unrecorded _ (move_of change.row) (total_of change.left) (total_of change.reached) unique in
    let apart = subst (λ n. AreUnique (filled n)) (sym number) all in
    let one = c.in_ok-insert_file.ensures.ok was inside d number first in
    let free = c.insert_file.ensures.survives.limit ∙ unlimited in
    let fault = c.in_err-record.ensures.fails clean free one.inside between (follows_too d between change kept.0 kept.1 follows) (one.stands stands) apart in
    handed_on IsRoomFault c.from_residual-in_err-record.result c.in_err-record.field-0.0 c.from_residual-in_err-record.ensures.1 (inl fault)

pub returns-in_err-record-clause-wants : goal.returns-in_err-record-clause-wants
returns-in_err-record-clause-wants g c good clean unlimited inside d stands number first follows unique name who short mover ids =
    let mid = state g.S.Store c.insert_file.new.tx.conn.now in
    let change = c.args.change.now in
    let was : HasCleanDisk mid = omega (arith, c.record.ensures.survives.clean) in
    let opened = with_batch d (record { name = c.args.name.now; state = 1; worker = [] }) in
    let filled : ℕ → Tables = λ n. with_items n c.args.who.now opened c.args.items.now in
    let between = filled c.args.number in
    let kept = items_keep c.args.number c.args.who.now opened c.args.items.now in
    let all = unique_unrecorded _ (move_of change.row) (total_of change.left) (total_of change.reached) unique in
    let apart = subst (λ n. AreUnique (filled n)) (sym number) all in
    let one = c.in_ok-insert_file.ensures.ok was inside d number first in
    let free = c.insert_file.ensures.survives.limit ∙ unlimited in
    second_blames g.S.Store c.args.tx.now.conn.now c.insert_file.new.tx.conn.now c.record.new.tx.conn.now IsWant c.from_residual-in_err-record.result c.in_err-record.field-0.0 c.from_residual-in_err-record.ensures.1 c.insert_file.ensures.survives c.record.ensures.survives (λ still whole. c.in_err-record.ensures.wants whole still free one.inside between (follows_too d between change kept.0 kept.1 follows) (one.stands stands) apart mover) clean good

pub returns-in_err-record-clause-cause : goal.returns-in_err-record-clause-cause
returns-in_err-record-clause-cause g c clean good =
    second_blames g.S.Store c.args.tx.now.conn.now c.insert_file.new.tx.conn.now c.record.new.tx.conn.now NeedsNoFaultOnRevisions c.from_residual-in_err-record.result c.in_err-record.field-0.0 c.from_residual-in_err-record.ensures.1
    c.insert_file.ensures.survives c.record.ensures.survives (λ still whole. inl (c.in_err-record.ensures.cause still whole)) clean good
