use Rattle.std.proofs.Common.{◌∙◌}
use Rattle.tb_verify.proofs.Six.{stand_as}
use Rattle.tb_verify.proofs.totals.totals_in.Goals as goal

pub returns-clause-stand : goal.returns-clause-stand
returns-clause-stand c = λ f b e.
    let stands = c.in-Some.ensures.sums f b e in
    (stands, c.are_sums.ensures.0 c.if-not-are_sums.false ∙ stand_as c.in-Some.totals f stands)
