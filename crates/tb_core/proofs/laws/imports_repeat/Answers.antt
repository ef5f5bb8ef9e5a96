use Rattle.tb_core.proofs.Repeats.{import_repeats}
use Rattle.tb_core.proofs.laws.imports_repeat.Goals as goal

pub returns : goal.returns
returns c = import_repeats
