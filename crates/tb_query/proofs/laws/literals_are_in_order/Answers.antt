use Rattle.tb_query.proofs.TextsInOrder.{texts_in_order}
use Rattle.tb_query.proofs.laws.literals_are_in_order.Goals as goal

pub returns : goal.returns
returns c = texts_in_order
