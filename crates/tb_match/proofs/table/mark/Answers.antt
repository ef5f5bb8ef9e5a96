use Rattle.std.proofs.Common.{arith, ◌≡◌, ◌+◌, ◌*◌, ◌-◌, ◌<◌, ◌≤◌, length, take, drop, ◌∙◌}
use Rattle.tb_match.proofs.Rows.{row_size, row_room, marked_row, part_long, word_of}
use Rattle.tb_match.proofs.table.mark.Goals as goal

pub returns : goal.returns
returns c = λ i j h.
    let T = c.args.table.now in
    let w = c.args.shape.width in
    let k = c.args.row in
    let inside : k < c.args.shape.last + 1 = omega arith in
    let room : k * w + w ≤ length T = omega (arith, row_room k c.args.shape.last w inside) in
    let size = row_size k w in
    let part : length (take (c.row.result.end - c.row.result.start) (drop c.row.result.start T)) ≡ w = rw c.row.ensures.words (part_long T k w _ size room ∙ size) in
    let long : length c.put.new.row ≡ w = omega (arith, part) in
    rw c.row.ensures.words
    (marked_row T c.put.new.row w k c.args.place _ size long room (rw c.row.ensures.words at c.put.ensures) i j (word_of j c.args.shape.last w h c.args.shape.wide))
