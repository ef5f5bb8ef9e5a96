use Rattle.tb_match.proofs.Rows.{begun_with}
use Rattle.tb_match.proofs.table.begin.Goals as goal

pub returns : goal.returns
returns c = λ j. begun_with c.clear.new.row c.put.new.row c.args.place j (c.clear.ensures j) (c.put.ensures j)
