use Rattle.std.proofs.Common.{◌≡◌, ◌-◌, Some, slice_get, subst, refl, arith, ◌∙◌, inl}
use Rattle.sqlite.specs.State.{HasCleanDisk}
use Rattle.sqlite.specs.Held.{state}
use Rattle.tb_tables.specs.Records.{Sentence, Revision}
use Rattle.tb_tables.specs.Changes.{with_revision, sentence_replaced}
use Rattle.tb_tables.specs.Commands.{after_correction}
use Rattle.tb_tables.specs.Revising.{revision_written}
use Rattle.tb_tables.specs.Values.{move_of, total_of}
use Rattle.tb_tables.proofs.WriteCommands.{changes_then}
use Rattle.tb_tables.proofs.Numbers.{follows_too}
use Rattle.tb_tables.specs.Failing.{IsRoomFault, IsWant, IsShort, NeedsNoFaultOnRevisions}
use Rattle.tb_tables.proofs.Apart.{unique_corrected}
use Rattle.tb_tables.proofs.WriteFaults.{handed_on, second_blames, both_survive}
use Rattle.tb_tables.proofs.correcting.correct.Goals as goal

pub returns-clause-ok : goal.returns-clause-ok
returns-clause-ok g c clean inside d s is follows stands =
    let old = state g.S.Store c.args.tx.now.conn.now in
    let first = state g.S.Store c.insert_revision.new.tx.conn.now in
    let second = state g.S.Store c.update_sentence.new.tx.conn.now in
    let new = state g.S.Store c.record.new.tx.conn.now in
    let change = c.args.change.now in
    let later : HasCleanDisk second = omega (arith, c.record.ensures.survives.clean) in
    let early : HasCleanDisk first = omega (arith, c.update_sentence.ensures.survives.clean) in
    let r : Revision = revision_written c.args.revision.now in
    let written = with_revision d r in
    let current = sentence_replaced written c.args.revision.now.sent (record s { rev = c.args.revision.now.rev; words = c.args.revision.now.words }) in
    let one = c.in_ok-insert_revision.ensures.ok early inside d in
    let two = c.in_ok-update_sentence.ensures.ok later one.inside written s is (one.stands stands) in
    let three = c.in_ok-record.ensures.ok clean two.inside current (follows_too d current change refl refl follows) (two.stands (one.stands stands)) in
    let after = after_correction d c.args.revision.now.sent s r c.args.revision.now.words (move_of change.row) (total_of change.left) (total_of change.reached) in
    changes_then old first new d written after one (changes_then first second new written current after two three)

pub returns-in_err-update_sentence-clause-fails : goal.returns-in_err-update_sentence-clause-fails
returns-in_err-update_sentence-clause-fails g c clean unlimited inside d s is follows stands unique =
    let first = state g.S.Store c.insert_revision.new.tx.conn.now in
    let early : HasCleanDisk first = omega (arith, c.update_sentence.ensures.survives.clean) in
    let r : Revision = revision_written c.args.revision.now in
    let one = c.in_ok-insert_revision.ensures.ok early inside d in
    let free = c.insert_revision.ensures.survives.limit ∙ unlimited in
    let fault = c.in_err-update_sentence.ensures.fails clean free one.inside (with_revision d r) (one.stands stands) unique in
    handed_on IsRoomFault c.from_residual-in_err-update_sentence.result c.in_err-update_sentence.field-0.0 c.from_residual-in_err-update_sentence.ensures.1 (inl fault)

pub returns-in_err-update_sentence-clause-wants : goal.returns-in_err-update_sentence-clause-wants
returns-in_err-update_sentence-clause-wants g c good clean unlimited inside d s is follows stands unique name who body mover free_ids =
    let first = state g.S.Store c.insert_revision.new.tx.conn.now in
    let early : HasCleanDisk first = omega (arith, c.update_sentence.ensures.survives.clean) in
    let r : Revision = revision_written c.args.revision.now in
    let one = c.in_ok-insert_revision.ensures.ok early inside d in
    let free = c.insert_revision.ensures.survives.limit ∙ unlimited in
    let named : (x : Sentence) → slice_get d.sentences (c.args.revision.now.sent - 1) ≡ Some x → IsShort x.sent_id = λ x there. subst (λ (y : Sentence). IsShort y.sent_id) (let same : s ≡ x = (let e = is in let f = there in cc) in same) name in
    second_blames g.S.Store c.args.tx.now.conn.now c.insert_revision.new.tx.conn.now c.update_sentence.new.tx.conn.now IsWant c.from_residual-in_err-update_sentence.result c.in_err-update_sentence.field-0.0 c.from_residual-in_err-update_sentence.ensures.1 c.insert_revision.ensures.survives c.update_sentence.ensures.survives (λ still whole. c.in_err-update_sentence.ensures.wants whole still free one.inside (with_revision d r) (one.stands stands) unique named) clean good

pub returns-in_err-record-clause-fails : goal.returns-in_err-record-clause-fails
returns-in_err-record-clause-fails g c clean unlimited inside d s is follows stands unique =
    let first = state g.S.Store c.insert_revision.new.tx.conn.now in
    let second = state g.S.Store c.update_sentence.new.tx.conn.now in
    let later : HasCleanDisk second = omega (arith, c.record.ensures.survives.clean) in
    let early : HasCleanDisk first = omega (arith, c.update_sentence.ensures.survives.clean) in
    let r : Revision = revision_written c.args.revision.now in
    let written = with_revision d r in
    let current = sentence_replaced written c.args.revision.now.sent (record s { rev = c.args.revision.now.rev; words = c.args.revision.now.words }) in
    let one = c.in_ok-insert_revision.ensures.ok early inside d in
    let two = c.in_ok-update_sentence.ensures.ok later one.inside written s is (one.stands stands) in
    let free = c.update_sentence.ensures.survives.limit ∙ c.insert_revision.ensures.survives.limit ∙ unlimited in
    let apart = unique_corrected written c.args.revision.now.sent s c.args.revision.now.rev c.args.revision.now.words is unique in
    let fault = c.in_err-record.ensures.fails clean free two.inside current (follows_too d current c.args.change.now refl refl follows) (two.stands (one.stands stands)) apart in
    handed_on IsRoomFault c.from_residual-in_err-record.result c.in_err-record.field-0.0 c.from_residual-in_err-record.ensures.1 (inl fault)

pub returns-in_err-record-clause-wants : goal.returns-in_err-record-clause-wants
returns-in_err-record-clause-wants g c good clean unlimited inside d s is follows stands unique name who body mover free_ids =
    let first = state g.S.Store c.insert_revision.new.tx.conn.now in
    let second = state g.S.Store c.update_sentence.new.tx.conn.now in
    let later : HasCleanDisk second = omega (arith, c.record.ensures.survives.clean) in
    let early : HasCleanDisk first = omega (arith, c.update_sentence.ensures.survives.clean) in
    let r : Revision = revision_written c.args.revision.now in
    let written = with_revision d r in
    let current = sentence_replaced written c.args.revision.now.sent (record s { rev = c.args.revision.now.rev; words = c.args.revision.now.words }) in
    let one = c.in_ok-insert_revision.ensures.ok early inside d in
    let two = c.in_ok-update_sentence.ensures.ok later one.inside written s is (one.stands stands) in
    let free = c.update_sentence.ensures.survives.limit ∙ c.insert_revision.ensures.survives.limit ∙ unlimited in
    let apart = unique_corrected written c.args.revision.now.sent s c.args.revision.now.rev c.args.revision.now.words is unique in
    second_blames g.S.Store c.args.tx.now.conn.now c.update_sentence.new.tx.conn.now c.record.new.tx.conn.now IsWant c.from_residual-in_err-record.result c.in_err-record.field-0.0 c.from_residual-in_err-record.ensures.1 (both_survive (state g.S.Store c.args.tx.now.conn.now) (state g.S.Store c.insert_revision.new.tx.conn.now) (state g.S.Store c.update_sentence.new.tx.conn.now) c.insert_revision.ensures.survives c.update_sentence.ensures.survives) c.record.ensures.survives (λ still whole. c.in_err-record.ensures.wants whole still free two.inside current (follows_too d current c.args.change.now refl refl follows) (two.stands (one.stands stands)) apart mover) clean good

pub returns-in_err-update_sentence-clause-cause : goal.returns-in_err-update_sentence-clause-cause
returns-in_err-update_sentence-clause-cause g c clean good =
    second_blames g.S.Store c.args.tx.now.conn.now c.insert_revision.new.tx.conn.now c.update_sentence.new.tx.conn.now NeedsNoFaultOnRevisions c.from_residual-in_err-update_sentence.result c.in_err-update_sentence.field-0.0 c.from_residual-in_err-update_sentence.ensures.1
    c.insert_revision.ensures.survives c.update_sentence.ensures.survives (λ still whole. inl (c.in_err-update_sentence.ensures.cause still whole)) clean good

pub returns-in_err-record-clause-cause : goal.returns-in_err-record-clause-cause
returns-in_err-record-clause-cause g c clean good =
    second_blames g.S.Store c.args.tx.now.conn.now c.update_sentence.new.tx.conn.now c.record.new.tx.conn.now NeedsNoFaultOnRevisions c.from_residual-in_err-record.result c.in_err-record.field-0.0 c.from_residual-in_err-record.ensures.1
    (both_survive (state g.S.Store c.args.tx.now.conn.now) (state g.S.Store c.insert_revision.new.tx.conn.now) (state g.S.Store c.update_sentence.new.tx.conn.now) c.insert_revision.ensures.survives c.update_sentence.ensures.survives) c.record.ensures.survives (λ still whole. inl (c.in_err-record.ensures.cause still whole)) clean good
