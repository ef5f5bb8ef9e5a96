use Rattle.std.proofs.Common.{◌≡◌, IsTrue, refl}
use Rattle.sqlite.specs.Steps.{over_memory}
use Rattle.sqlite.proofs.Callers.{memory_is_clean}
use Rattle.tb_core.specs.declared.refusals.Fault.TheVariants.{Device}
use Rattle.tb_store.specs.Calls.{IsDurable}
use Rattle.tb_store.proofs.InMemory.{faultless, of_error}
use Rattle.tb_store.proofs.laws.commands_in_memory_blame_in_doubt_alone.Goals as goal

pub returns-clause-any : goal.returns-clause-any
returns-clause-any g c d e s result blames stands is =
    of_error (λ fault. fault ≡ Device → IsTrue e.in_doubt × IsDurable over_memory e s) result Device (blames (memory_is_clean e.conn) s stands (faultless d e s stands)) is refl

pub returns-clause-with_room : goal.returns-clause-with_room
returns-clause-with_room g c d e s result command body revisions blames stands room is =
    of_error (λ fault. fault ≡ Device → IsTrue e.in_doubt × IsDurable over_memory e s) result Device (blames (memory_is_clean e.conn) s stands (faultless d e s stands) room) is refl
