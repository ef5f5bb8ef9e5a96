use Rattle.tb_refine.proofs.Reported.{reported_if}
use Rattle.tb_verify.specs.Unfit.{fault_of_unfit}
use Rattle.tb_verify.proofs.summary.summary_of_desk.Goals as goal

pub returns-clause-summary : goal.returns-clause-summary
returns-clause-summary c = rw c.fitting.ensures.value (reported_if fault_of_unfit _ c.summary_of_rows.result c.summary_of_rows.ensures.summary)

pub returns-clause-counts : goal.returns-clause-counts
returns-clause-counts c = rw c.fitting.ensures.value (reported_if fault_of_unfit _ c.summary_of_rows.result c.summary_of_rows.ensures.counts)

pub returns-clause-unfit : goal.returns-clause-unfit
returns-clause-unfit c failed s reach is = c.summary_of_rows.ensures.unfit (c.fitting.ensures.form failed) s reach is

pub returns-clause-empty : goal.returns-clause-empty
returns-clause-empty c b s m failed = c.summary_of_rows.ensures.empty b s m (c.fitting.ensures.want failed)
