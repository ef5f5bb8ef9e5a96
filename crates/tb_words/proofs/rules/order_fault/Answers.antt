use Rattle.tb_words.proofs.Orders.{order_told}
use Rattle.tb_words.proofs.rules.order_fault.Goals as goal

pub returns : goal.returns
returns c =
    λ few. order_told c.args.placed.now c.in_ok-at.at c.in_ok-at.wanted c.misplaced_row.result (c.in_ok-at.ensures few)
    c.misplaced_row.ensures
