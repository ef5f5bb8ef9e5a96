use Rattle.std.proofs.Common.{◌∙◌, arith, sym}
use Rattle.std.proofs.lemmas.Bool.{true≢false}
use Rattle.tb_host.proofs.misfit.is_sum.Goals as goal

pub returns-in-Some : goal.returns-in-Some
returns-in-Some c =
    let there = c.in-Some.ensures.lookup.3 in
    (λ t. (there.0, sym (there.1 0) ∙ c.is_same.ensures.0 t), λ h. c.is_same.ensures.1 (there.1 0 ∙ h.1))

pub returns-in-None : goal.returns-in-None
returns-in-None c = (λ t. absurd (true≢false (sym t)), λ h. absurd (omega (arith, h.0, c.in-None.ensures.lookup.3)))
