use Rattle.std.proofs.Common.{arith, ◌+◌, ◌-◌, ◌*◌, ◌↔◌, length, subst, refl}
use borrow.Rule.Slice.PartMut.{put_mid}
use Rattle.tb_match.specs.Bits.{InRow, InTable}
use Rattle.tb_match.proofs.Rows.{row_written, row_kept}
use Rattle.tb_match.proofs.table.store.Goals as goal

pub returns-clause-stored : goal.returns-clause-stored
returns-clause-stored c = λ j h.
    let same = c.copy_from_slice.ensures.after in
    subst (λ xs. InTable (put_mid (c.args.place * length c.args.row.now) (c.args.place * length c.args.row.now + length c.args.row.now - c.args.place * length c.args.row.now) c.args.table.now c.copy_from_slice.new.self) (length c.args.row.now) c.args.place j ↔ InRow xs 0 j) same
    (row_written c.args.table.now c.copy_from_slice.new.self (c.args.place * length c.args.row.now) _ (length c.args.row.now) c.args.place j refl (omega arith) (omega arith) h c.requires)

pub returns-clause-others : goal.returns-clause-others
returns-clause-others c = λ i j ne h.
    row_kept c.args.table.now c.copy_from_slice.new.self (c.args.place * length c.args.row.now) _ (length c.args.row.now) c.args.place j refl (omega arith) (omega arith) h c.requires i ne
