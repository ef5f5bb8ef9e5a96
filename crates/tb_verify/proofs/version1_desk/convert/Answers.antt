use Rattle.tb_refine.specs.Faults.{fault_of_making}
use Rattle.tb_refine.proofs.Reported.{reported_on, reported_err}
use Rattle.tb_verify.proofs.Upgraded.{never_device, want_of_both}
use Rattle.tb_verify.proofs.version1_desk.convert.Goals as goal

pub returns-clause-ok : goal.returns-clause-ok
returns-clause-ok g c clean = rw c.answered.ensures.value (reported_on fault_of_making c.upgrade.result (c.upgrade.ensures.ok clean) (λ made. made))

pub returns-clause-err : goal.returns-clause-err
returns-clause-err g c clean opened = rw c.answered.ensures.value (reported_err fault_of_making _ c.upgrade.result (c.upgrade.ensures.err clean opened))

pub returns-clause-cause : goal.returns-clause-cause
returns-clause-cause g c unlimited d holds unique in_range clean good =
    let fails = c.upgrade.ensures.fails clean unlimited d holds unique in_range in
    never_device c.answered.result (c.answered.ensures.cause (want_of_both c.upgrade.result fails (c.upgrade.ensures.cause clean good)))
