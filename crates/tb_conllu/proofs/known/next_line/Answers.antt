use Rattle.std.proofs.Common.{◌≡◌, ◌-◌, arith}
use Rattle.std.proofs.lemmas.Bool.{eqb-true}
use Rattle.std.proofs.lemmas.Str.{lead_after_ascii}
use Rattle.tb_conllu.proofs.FirstMark.{nowhere, cut_at}
use Rattle.tb_conllu.proofs.known.next_line.Goals as goal

pub returns-in_err-end : goal.returns-in_err-end
returns-in_err-end c =
    let none = rw c.as_bytes.ensures.value at c.in_err-end.ensures in
    rw c.from_residual.ensures (nowhere 10 c.args.text.now (λ k l e. none k (omega arith) l e))

pub range_from-requires : goal.range_from-requires
range_from-requires c =
    let found = rw c.as_bytes.ensures.value at c.in_ok-end.ensures in
    let feed = eqb-true _ 10 found.1 in
    λ some. (omega (arith, found.0.high), λ l high. lead_after_ascii c.args.text.now c.in_ok-end.end c.utf8.text (omega (arith, feed)) l high)

pub returns : goal.returns
returns c =
    let found = rw c.as_bytes.ensures.value at c.in_ok-end.ensures in
    let whole : c.in_ok-end.end - 0 ≡ c.in_ok-end.end = omega arith in
    rw (c.range.ensures.value, c.range_from.ensures.value, whole) (cut_at 10 c.args.text.now c.in_ok-end.end found.0.high (λ k l e. found.0.before k (omega arith) l e) found.1)
