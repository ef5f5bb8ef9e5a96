use Rattle.tb_match.proofs.Rows.{cleared}
use Rattle.tb_match.proofs.table.clear.Goals as goal

pub returns : goal.returns
returns c = λ j. cleared c.fill.new.self _ j (c.fill.ensures.after (λ y e. e))
