use Rattle.sqlite.specs.Files.{IsOpened, file_state}
use Rattle.sqlite.specs.State.{HasCleanDisk}
use Rattle.tb_host.proofs.Handed.{passed}
use Rattle.tb_host.proofs.files.over.Goals as goal

pub returns-clause-opened : goal.returns-clause-opened
returns-clause-opened g c =
    passed _ (λ conn. HasCleanDisk (file_state conn) → IsOpened conn) c.open_files.result c.connection.result c.connection.ensures c.open_files.ensures.opened
