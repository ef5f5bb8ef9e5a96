use Rattle.tb_refine.proofs.Alone.{same_tables}
use Rattle.tb_refine.proofs.Single.{rows_same}
use Rattle.tb_refine.proofs.laws.one_state_for_the_file.Goals as goal

pub returns : goal.returns
returns c = λ s t trees r q h k. c.rows_tell_the_state.ensures s t r.reached q.reached (rows_same s t r.reached q.reached (same_tables s t trees r q h k))
