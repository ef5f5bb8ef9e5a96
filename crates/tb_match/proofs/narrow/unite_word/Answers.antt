use Rattle.std.proofs.Common.{◌≡◌, ◌+◌, ◌-◌, ◌*◌, arith, take, drop, bit_or, subst}
use Rattle.std.specs.Simd.Lanes.{zip2}
use Rattle.tb_match.proofs.Rows.{united_row}
use Rattle.tb_match.proofs.narrow.unite_word.Goals as goal

pub returns-clause-united : goal.returns-clause-united
returns-clause-united c = λ j h.
    let T = c.args.table.now in
    let k = c.args.place in
    let at : k ≡ k * 1 = omega arith in
    united_row c.args.row.now c.unite.new.to T 1 k j (k + 1 - k) c.requires.one (omega arith) (omega arith) (omega arith)
    (subst (λ b. c.unite.new.to ≡ zip2 bit_or c.args.row.now (take (k + 1 - k) (drop b T))) at c.unite.ensures.words)
