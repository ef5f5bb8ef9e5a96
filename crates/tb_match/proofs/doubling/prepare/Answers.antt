use Rattle.std.proofs.Common.{arith, ◌↔◌, sym, subst}
use Rattle.tb_match.specs.Bits.{IsClosed, IsForward, HasLinksOf, Repeated}
use Rattle.tb_match.proofs.Doubles.{closed_linked, own_links}
use Rattle.tb_match.proofs.doubling.prepare.Goals as goal

pub returns-clause-rows : goal.returns-clause-rows
returns-clause-rows c = λ n i j p q.
    subst (λ xs. Repeated xs c.args.table.now c.args.shape.width c.args.shape.last n i j ↔ Repeated c.args.links.now c.args.table.now c.args.shape.width c.args.shape.last n i j) (sym c.copy_from_slice.ensures.after)
    (own_links c.args.links.now c.args.table.now c.args.shape.width c.args.shape.last (c.requires.closed c.if-not-closed.false) (c.requires.chains c.if-not-closed.false (omega arith)) n i j p q)

pub returns-clause-onward : goal.returns-clause-onward
returns-clause-onward c =
    subst (λ xs. IsForward xs c.args.shape.width c.args.shape.last) (sym c.copy_from_slice.ensures.after) (c.requires.forward c.if-not-closed.false)

pub returns-clause-chained : goal.returns-clause-chained
returns-clause-chained c = λ done is.
    subst (λ xs. IsClosed xs c.args.shape.width 0 c.args.shape.last) (sym c.copy_from_slice.ensures.after) (c.requires.closed is)

pub returns-clause-linked : goal.returns-clause-linked
returns-clause-linked c = λ is.
    subst (λ xs. HasLinksOf c.args.table.now xs c.args.shape.width c.args.shape.last) (sym c.copy_from_slice.ensures.after)
    (closed_linked c.args.table.now c.args.shape.width c.args.shape.last (c.requires.closed is))
