use Rattle.std.proofs.Common.{arith, ◌<◌, ◌≤◌, ◌+◌, ◌↔◌, ◌⊎◌, ℕ}
use Rattle.tb_match.specs.Bits.{InRow, InTable}
use Rattle.tb_match.proofs.Rows.{gather_yes, gather_over, united_row, row_size, row_room, word_of}
use Rattle.tb_match.proofs.table.gather.Goals as goal

pub loop-place-preserved : goal.loop-place-preserved
loop-place-preserved c =
    let L = c.args.links.now in
    let T = c.args.table.now in
    let w = c.args.shape.width in
    let place = c.loop-place.place in
    let spare = c.loop-place.spare in
    let spare' = c.unite.new.to in
    let inv = c.loop-place.invariant in
    let after = c.next_place-place-in-loop-place.ensures in
    let below : place < c.args.shape.last + 1 = omega arith in
    let on = after.order (omega arith) in
    let united : (j : ℕ) → j ≤ c.args.shape.last → InRow spare' 0 j ↔ (InRow spare 0 j ⊎ InTable T w place j) = λ j h.
    united_row spare spare' T w place j _ inv.wide (row_size place w) (word_of j c.args.shape.last w h c.args.shape.wide)
    (omega (arith, row_room place c.args.shape.last w below)) (rw c.row.ensures.words at c.unite.ensures.words) in
    record {
      from = omega arith;
      upto = after.limit;
      wide = omega arith;
      here = λ j h.
          gather_over L T c.args.spare.now spare' w c.args.first (place + 1) _ j on (λ m a b link row. absurd (after.none m a b link))
          (gather_yes L T c.args.spare.now spare spare' w c.args.first place j inv.from (inv.here j h) (inv.link c.loop-place-test.true) (united j h));
      link = after.there;
      counted = λ j link sooner. omega arith;
      more = omega arith;
      bound = omega arith;
    }
