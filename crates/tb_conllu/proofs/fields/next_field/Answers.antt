use Rattle.std.proofs.Common.{◌≡◌, ◌-◌, sym, arith}
use Rattle.std.proofs.lemmas.Bool.{eqb-true}
use Rattle.std.proofs.lemmas.Str.{lead_after_ascii}
use Rattle.tb_conllu.proofs.Splits.{no_tab, tab_at}
use Rattle.tb_conllu.proofs.fields.next_field.Goals as goal

pub returns-in_err-end : goal.returns-in_err-end
returns-in_err-end c =
    let none = c.in_err-end.ensures in
    rw c.from_residual.ensures (rw (sym c.as_bytes.ensures.value) (no_tab c.as_bytes.result.now (λ k l e. none k (omega arith) l e)))

pub range_from-requires : goal.range_from-requires
range_from-requires c =
    let found = rw c.as_bytes.ensures.value at c.in_ok-end.ensures in
    let tab = eqb-true _ 9 found.1 in
    λ some. (omega (arith, found.0.high), λ l high. lead_after_ascii c.args.line.now c.in_ok-end.end c.utf8.line (omega (arith, tab)) l high)

pub returns : goal.returns
returns c =
    let found = rw c.as_bytes.ensures.value at c.in_ok-end.ensures in
    let whole : c.in_ok-end.end - 0 ≡ c.in_ok-end.end = omega arith in
    rw (c.range.ensures.value, c.range_from.ensures.value, whole) (tab_at c.args.line.now c.in_ok-end.end found.0.high (λ k l e. found.0.before k (omega arith) l e) found.1)
