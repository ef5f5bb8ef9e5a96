use Rattle.std.proofs.Common.{arith, ◌≡◌, ◌+◌, ◌*◌, ◌-◌, ◌↔◌, length, take, drop, sym, subst}
use Rattle.tb_match.specs.Bits.{InRow, InTable}
use Rattle.tb_match.proofs.Rows.{InRow_part, row_size, word_of}
use Rattle.tb_match.proofs.bounded.limit_place.Goals as goal

pub limit_row-same-requires-clause-closed : goal.limit_row-same-requires-clause-closed
limit_row-same-requires-clause-closed c = λ j h.
    let w = c.args.shape.width in
    let p = c.args.place in
    let size = row_size p w in
    let short = word_of j c.args.shape.last w h c.args.shape.wide in
    let part = InRow_part c.args.table.now (p * w) ((p + 1) * w - p * w) j (omega arith) in
    let closed = c.requires.closed j h in
    rw c.row.ensures.words (λ q. closed.0 (part.0 q), λ r. part.1 (closed.1 r))

pub returns-clause-unchanged : goal.returns-clause-unchanged
returns-clause-unchanged c = λ is j h.
    let T = c.args.table.now in
    let w = c.args.shape.width in
    let p = c.args.place in
    let row = c.limit_row-same.new.row in
    let size = row_size p w in
    let short = word_of j c.args.shape.last w h c.args.shape.wide in
    let long : length c.limit_row-same.new.row ≡ c.args.shape.width = omega arith in
    let part = InRow_part T (p * w) ((p + 1) * w - p * w) j (omega arith) in
    let same : row ≡ take ((p + 1) * w - p * w) (drop (p * w) T) = rw c.row.ensures.words at c.limit_row-same.ensures.unchanged is in
    let r : InRow row 0 j ↔ InTable T w p j = subst (λ xs. InRow xs 0 j ↔ InTable T w p j) (sym same) part in
    let stored = subst (λ n. InTable c.store.new.table n p j ↔ InRow row 0 j) long (c.store.ensures.stored j (omega arith)) in
    (λ q. r.0 (stored.0 q), λ q. stored.1 (r.1 q))
