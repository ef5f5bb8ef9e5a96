use Rattle.std.proofs.lemmas.Result.{err_from_is_err_and}
use Rattle.tb_core.proofs.Bodies.{fault_wants}
use Rattle.tb_core.proofs.taking.take_file.Goals as goal

pub returns-in_err-read-clause-memory : goal.returns-in_err-read-clause-memory
returns-in_err-read-clause-memory c =
    let p = err_from_is_err_and c.from_residual-in_err-read.result c.from_residual-in_err-read.ensures.1 in
    rw p.1 (fault_wants c.in_err-read.field-0.0 p.0 c.in_err-read.ensures.memory p.2)
