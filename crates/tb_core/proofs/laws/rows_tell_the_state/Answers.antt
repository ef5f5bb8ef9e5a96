use Rattle.tb_core.proofs.Same.{same_rows}
use Rattle.tb_core.proofs.laws.rows_tell_the_state.Goals as goal

pub returns : goal.returns
returns c = same_rows c.one_list_has_a_text.ensures
