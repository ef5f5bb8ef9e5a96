use Rattle.tb_core.proofs.Again.{correction_repeats}
use Rattle.tb_core.proofs.laws.corrections_repeat.Goals as goal

pub returns : goal.returns
returns c = correction_repeats
