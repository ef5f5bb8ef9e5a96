use Rattle.std.proofs.lemmas.Result.{err_from_is_err_and}
use Rattle.tb_core.proofs.Bodies.{one_wants}
use Rattle.tb_core.proofs.correction.take_one.Goals as goal

pub returns-in_err-own_block-clause-memory : goal.returns-in_err-own_block-clause-memory
returns-in_err-own_block-clause-memory g c =
    let p = err_from_is_err_and c.from_residual-in_err-own_block.result c.from_residual-in_err-own_block.ensures.1 in
    rw p.1 (λ memory. one_wants c.args.body.now c.in_ok-passage.passage.block c.in_ok-passage.ensures.taken.taken.file)
