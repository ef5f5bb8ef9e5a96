use Rattle.std.proofs.Common.{arith, ◌≡◌, ◌+◌, ◌-◌, ◌<◌, length, refl, take, drop, ◌∙◌}
use Rattle.tb_match.proofs.Rows.{merged_row, part_long, row_kept, row_size, row_room, word_of}
use Rattle.tb_match.proofs.table.merge_row.Goals as goal

pub returns-clause-row : goal.returns-clause-row
returns-clause-row c = λ j h.
    let T = c.args.table.now in
    let O = c.args.other.now in
    let w = c.args.shape.width in
    let p = c.args.place in
    let inside : p < c.args.shape.last + 1 = omega arith in
    let room = row_room p c.args.shape.last w inside in
    let size = row_size p w in
    let part : length (take (c.row.result.end - c.row.result.start) (drop c.row.result.start T)) ≡ w = rw c.row.ensures.words (part_long T p w _ size (omega (arith, room)) ∙ size) in
    let long : length c.unite.new.to ≡ w = omega (arith, part) in
    rw c.row.ensures.words
    (merged_row T O c.unite.new.to w p j _ _ size size (word_of j c.args.shape.last w h c.args.shape.wide) (omega (arith, room)) (omega (arith, room)) (rw (c.row.ensures.words, c.row-2.ensures.words) at c.unite.ensures.words) long)

pub returns-clause-others : goal.returns-clause-others
returns-clause-others c = λ i j ne h.
    let T = c.args.table.now in
    let w = c.args.shape.width in
    let p = c.args.place in
    let inside : p < c.args.shape.last + 1 = omega arith in
    let room = row_room p c.args.shape.last w inside in
    let size = row_size p w in
    let part : length (take (c.row.result.end - c.row.result.start) (drop c.row.result.start T)) ≡ w = rw c.row.ensures.words (part_long T p w _ size (omega (arith, room)) ∙ size) in
    let long : length c.unite.new.to ≡ w = omega (arith, part) in
    rw c.row.ensures.words (row_kept T c.unite.new.to _ _ w p j refl size long (word_of j c.args.shape.last w h c.args.shape.wide) (omega (arith, room)) i ne)
