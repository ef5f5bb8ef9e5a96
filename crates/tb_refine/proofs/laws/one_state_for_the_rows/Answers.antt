use Rattle.tb_refine.proofs.Single.{rows_same}
use Rattle.tb_refine.proofs.laws.one_state_for_the_rows.Goals as goal

pub returns : goal.returns
returns c = λ s t r q e. c.rows_tell_the_state.ensures s t r q (rows_same s t r q e)
