use Rattle.std.proofs.Common.{◌≡◌, Err, ap, sym}
use Rattle.tb_core.specs.declared.refusals.Fault.TheVariants as refusals
use Rattle.tb_verify.specs.declared.unfit.Unfit.TheVariants.{NotADesk}
use Rattle.tb_verify.proofs.machine.moves_in.Goals as goal

pub returns-in-Err-clause-unfit : goal.returns-in-Err-clause-unfit
returns-in-Err-clause-unfit c q ms e =
    let unfit : c.unfit_of.result ≡ NotADesk = cc in
    c.in-Err.ensures.known (ap (λ f. Err f) (c.unfit_of.ensures.form unfit)) ms (sym e)

pub returns-in-Ok-clause-wrong : goal.returns-in-Ok-clause-wrong
returns-in-Ok-clause-wrong c none = absurd (none _ c.in-Ok.ensures.records)

pub returns-in-Err-clause-wrong : goal.returns-in-Err-clause-wrong
returns-in-Err-clause-wrong c none =
    let bad = c.in-Err.ensures.wrong (λ ms e. none ms (sym e)) in
    let fault : c.in-Err.fault ≡ refusals.NotADesk = cc in
    ap Err (c.unfit_of.ensures.desk fault)
