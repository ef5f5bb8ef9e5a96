use Rattle.tb_literal.proofs.ItemLemmas.{cut_of}
use Rattle.tb_literal.proofs.cutting.cut.Goals as goal

pub returns-clause-pieces : goal.returns-clause-pieces
returns-clause-pieces c = cut_of c.args.rest.now c.split_once.result c.split_once.ensures.cases
