use Rattle.std.proofs.Common.{arith, ◌≡◌, ◌+◌, ◌*◌, ◌-◌, ◌≤◌, length, refl, inl, ⊎_elim, take, drop, ◌∙◌}
use Rattle.tb_match.proofs.Rows.{InRow_part, part_long, row_kept, row_room, row_size, row_written, word_of}
use Rattle.tb_match.proofs.bounded.leave_place.Goals as goal

pub returns-then-next_place-place-clause-row : goal.returns-then-next_place-place-clause-row
returns-then-next_place-place-clause-row c = λ j h.
    let T = c.args.table.now in
    let w = c.args.shape.width in
    let p = c.args.place in
    let size = row_size p w in
    let room = row_room p c.args.shape.last w (omega arith) in
    let inside : p * w + w ≤ length T = omega (arith, room) in
    let old : length (take (c.row.result.end - c.row.result.start) (drop c.row.result.start T)) ≡ w = rw c.row.ensures.words (part_long T p w _ size inside ∙ size) in
    let long : length c.remove.new.row ≡ w = omega (arith, old) in
    let short = word_of j c.args.shape.last w h c.args.shape.wide in
    let part = InRow_part T (p * w) ((p + 1) * w - p * w) j (omega arith) in
    let new = row_written T c.remove.new.row (p * w) _ w p j refl size long short inside in
    let gone = (rw c.row.ensures.words at c.remove.ensures) j in
    rw c.row.ensures.words (
      λ q. let r = gone.0 (new.0 q) in (part.0 r.0, inl r.1),
      λ q. new.1 (gone.1 (part.1 q.0, ⊎_elim (λ ne. ne) (λ own. absurd (c.next_place.ensures.none p (omega arith) (omega arith) own)) q.1)),
    )

pub returns-then-next_place-place-clause-others : goal.returns-then-next_place-place-clause-others
returns-then-next_place-place-clause-others c = λ i j ne h.
    let T = c.args.table.now in
    let w = c.args.shape.width in
    let p = c.args.place in
    let size = row_size p w in
    let room = row_room p c.args.shape.last w (omega arith) in
    let inside : p * w + w ≤ length T = omega (arith, room) in
    let old : length (take (c.row.result.end - c.row.result.start) (drop c.row.result.start T)) ≡ w = rw c.row.ensures.words (part_long T p w _ size inside ∙ size) in
    let long : length c.remove.new.row ≡ w = omega (arith, old) in
    rw c.row.ensures.words (row_kept T c.remove.new.row (p * w) _ w p j refl size long (word_of j c.args.shape.last w h c.args.shape.wide) inside i ne)
