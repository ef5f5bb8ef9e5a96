use Rattle.std.proofs.Common.{◌<◌, length, arith, sym, ◌∙◌}
use Rattle.std.proofs.lemmas.Bool.Decides.{nat_tests}
use Rattle.std.proofs.lemmas.Result.{err_from_is_err_and}
use Rattle.tb_conllu.proofs.Files.{some_text}
use Rattle.tb_conllu.proofs.round.reread.Goals as goal

pub returns-in_err-bytes-clause-reported : goal.returns-in_err-bytes-clause-reported
returns-in_err-bytes-clause-reported c =
    let p = err_from_is_err_and c.from_residual.result c.from_residual.ensures.1 in
    let none = sym c.is_empty.ensures ∙ c.if-is_empty.false in
    let some : 0 < length c.args.blocks.now = grind (arith, nat_tests) in
    rw (p.1, p.2) (some_text c.args.blocks.now some)
