use Rattle.std.proofs.Common.{refl}
use Rattle.sqlite.proofs.Callers.{memory_is_clean}
use Rattle.tb_core.specs.declared.refusals.Fault.TheVariants.{Device}
use Rattle.tb_refine.specs.Faults.{IsNoDevice}
use Rattle.tb_store.proofs.InMemory.{faultless, of_error}
use Rattle.tb_store.proofs.laws.questions_in_memory_blame_no_device.Goals as goal

pub returns : goal.returns
returns g c d e s result question stands is =
    of_error IsNoDevice result Device (question.cause (memory_is_clean e.conn) s stands (faultless d e s stands)) is refl
