use Rattle.std.proofs.lemmas.Result.{IfOk-weaker}
use Rattle.tb_match.proofs.Rows.{no_row}
use Rattle.tb_match.proofs.table.empty.Goals as goal

pub returns-clause-none : goal.returns-clause-none
returns-clause-none c = IfOk-weaker c.from_elem.result _ _ (λ v h i j p. no_row v.items _ c.args.shape.width i j (h (λ y e. e)) p) c.from_elem.ensures.items_if_clones_equal
