use Rattle.std.proofs.Common.{◌<◌, length, arith, sym, ◌∙◌}
use Rattle.std.proofs.lemmas.Bool.Decides.{nat_tests}
use Rattle.std.proofs.lemmas.Result.{err_from_is_err_and}
use Rattle.tb_conllu.proofs.Shortage.{file_wants}
use Rattle.tb_conllu.proofs.round.rewrite.Goals as goal

pub returns-in_err-write-clause-memory : goal.returns-in_err-write-clause-memory
returns-in_err-write-clause-memory c =
    let p = err_from_is_err_and c.from_residual-in_err-write.result c.from_residual-in_err-write.ensures.1 in
    let none = sym c.is_empty.ensures ∙ c.if-is_empty.false in
    let some : 0 < length c.args.bytes.now = grind (arith, nat_tests) in
    let file = c.in_ok-blocks.ensures.file in
    rw p.1 (λ _. file_wants c.args.bytes.now c.in_ok-blocks.blocks.items file.shaped file.text some)
