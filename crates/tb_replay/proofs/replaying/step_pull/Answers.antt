use Rattle.std.proofs.Common.{◌≡◌, ◌+◌, ◌-◌, true, get_or, refl, ◌∙◌, ap, arith}
use Rattle.tb_core.specs.Moves.{MoveText}
use Rattle.tb_replay.specs.Slots.{Mark, Slot, no_mark, no_slot, small}
use Rattle.tb_replay.specs.Playing.{mark_next, mark_flagged}
use Rattle.tb_replay.proofs.Loops.{both_written}
use Rattle.tb_replay.proofs.replaying.step_pull.Goals as goal

pub returns-clause-next : goal.returns-clause-next
returns-clause-next c = λ v.
    let slots = c.args.slots.now in
    let marks = c.args.marks.now in
    let x : Mark = c.mark_of-mark.result in
    let i = c.saturating_sub-place.result in
    let j = c.args.change.now.sent - 1 in
    let b : Slot = record { state = c.slot.inside.state; worker = c.slot.inside.worker.now; sentences = c.slot.inside.sentences; words = c.slot.inside.words } in
    let p : i ≡ j = c.saturating_sub-place.ensures ∙ ap (λ (m : MoveText). m.sent - 1) c.change.view_is in
    let is : x ≡ get_or marks i no_mark = c.mark_of-mark.ensures in
    let slot : b ≡ get_or slots (x.batch - 1) no_slot = c.slot.view_is ∙ (c.slot_of-slot.ensures ∙ ap (λ k. get_or slots k no_slot) c.saturating_sub.ensures) in
    let there : x ≡ get_or marks j no_mark = is ∙ ap (λ k. get_or marks k no_mark) p in
    let s : c.saturating_sub-2.result ≡ b.sentences + 0 - 1 = omega (arith, c.saturating_sub-2.ensures) in
    let w : c.saturating_sub-3.result ≡ b.words + 0 - x.words = omega (arith, c.saturating_sub-3.ensures) in
    both_written 0 1 0 x.words (mark_flagged true) slots c.put_both.new.slots marks c.put_both.new.marks c.args.count i j x (mark_flagged true x) b c.saturating_sub-2.result c.saturating_sub-3.result
    p is slot s w refl c.put_both.ensures.slots c.put_both.ensures.marks
    ∙ ap (λ (z : Mark). mark_next 0 1 0 z.words (mark_flagged true) (get_or marks j no_mark) j (small slots marks c.args.count)) there
