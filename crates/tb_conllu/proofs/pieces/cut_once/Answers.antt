use Rattle.std.proofs.Common.{arith}
use Rattle.tb_conllu.proofs.FirstMark.{nowhere, cut_at}
use Rattle.tb_conllu.proofs.pieces.cut_once.Goals as goal

pub returns-in_err-end : goal.returns-in_err-end
returns-in_err-end c = rw c.from_residual.ensures (nowhere c.args.mark c.args.bytes.now (λ k l e. c.in_err-end.ensures k (omega arith) l e))

pub returns : goal.returns
returns c =
    let found = c.in_ok-end.ensures in
    rw c.after.ensures (cut_at c.args.mark c.args.bytes.now c.in_ok-end.end found.0.high (λ k l e. found.0.before k (omega arith) l e) found.1)
