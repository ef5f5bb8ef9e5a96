use Rattle.std.proofs.Common.{◌≡◌, ◌+◌, ◌-◌, get_or, refl, ◌∙◌, ap, arith}
use Rattle.tb_core.specs.Moves.{MoveText}
use Rattle.tb_replay.specs.Summaries.{RevisionRow}
use Rattle.tb_replay.specs.Slots.{Mark, Slot, no_mark, no_slot, small}
use Rattle.tb_replay.specs.Playing.{mark_next, mark_corrected, row_next, entry_at}
use Rattle.tb_replay.proofs.Loops.{both_written}
use Rattle.tb_replay.proofs.replaying.step_correct.Goals as goal

pub returns-clause-next : goal.returns-clause-next
returns-clause-next c = λ v.
    let slots = c.args.slots.now in
    let marks = c.args.marks.now in
    let es = c.args.entries.now in
    let x : Mark = c.mark_of-mark.result in
    let i = c.saturating_sub-place.result in
    let j = c.args.change.now.sent - 1 in
    let n = c.row.inside.words in
    let b : Slot = record { state = c.slot.inside.state; worker = c.slot.inside.worker.now; sentences = c.slot.inside.sentences; words = c.slot.inside.words } in
    let p : i ≡ j = c.saturating_sub-place.ensures ∙ ap (λ (m : MoveText). m.sent - 1) c.change.view_is in
    let is : x ≡ get_or marks i no_mark = c.mark_of-mark.ensures in
    let slot : b ≡ get_or slots (x.batch - 1) no_slot = c.slot.view_is ∙ (c.slot_of-slot.ensures ∙ ap (λ k. get_or slots k no_slot) c.saturating_sub.ensures) in
    let there : x ≡ get_or marks j no_mark = is ∙ ap (λ k. get_or marks k no_mark) p in
    let row : n ≡ (row_next x (entry_at es i)).words = ap (λ (r : RevisionRow). r.words) c.row.view_is ∙ ap (λ (r : RevisionRow). r.words) c.in-Some.ensures.row.1 in
    let count : n ≡ (row_next (get_or marks j no_mark) (entry_at es j)).words =
    row ∙ (ap (λ (z : Mark). (row_next z (entry_at es i)).words) there ∙ ap (λ k. (row_next (get_or marks j no_mark) (entry_at es k)).words) p) in
    let s : b.sentences ≡ b.sentences + 1 - 1 = omega arith in
    both_written 1 1 n x.words (mark_corrected n) slots c.put_both.new.slots marks c.put_both.new.marks c.args.count i j x (mark_corrected n x) b b.sentences c.saturating_sub-2.result
    p is slot s c.saturating_sub-2.ensures refl c.put_both.ensures.slots c.put_both.ensures.marks
    ∙ (ap (λ (z : Mark). mark_next 1 1 n z.words (mark_corrected n) (get_or marks j no_mark) j (small slots marks c.args.count)) there
    ∙ ap (λ k. mark_next 1 1 k (get_or marks j no_mark).words (mark_corrected k) (get_or marks j no_mark) j (small slots marks c.args.count)) count)
