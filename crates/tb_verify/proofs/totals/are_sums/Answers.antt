use Rattle.std.proofs.Common.{◌≡◌, length, rules}
use Rattle.tb_verify.proofs.Six.{sums_then, sums_else}
use Rattle.tb_verify.proofs.totals.are_sums.Goals as goal

pub returns-then-are_same : goal.returns-then-are_same
returns-then-are_same c =
    let ls : length c.args.totals.now.sentences ≡ 6 = search rules in
    let lw : length c.args.totals.now.words ≡ 6 = search rules in
    sums_then c.args.rows.now c.in-Some.stored c.args.totals.now c.in-Some.ensures.six ls lw c.are_same-then-are_same.result (c.are_same.ensures.0 c.if-are_same.true) c.are_same-then-are_same.ensures

pub returns-else-are_same : goal.returns-else-are_same
returns-else-are_same c =
    let ls : length c.args.totals.now.sentences ≡ 6 = search rules in
    let lw : length c.args.totals.now.words ≡ 6 = search rules in
    sums_else c.args.rows.now c.in-Some.stored c.args.totals.now c.in-Some.ensures.six ls lw c.are_same.result c.if-are_same.false c.are_same.ensures
