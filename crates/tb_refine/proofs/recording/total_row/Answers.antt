use Rattle.tb_core.specs.declared.kinds.State.TheVariants.{Opened, Assigned, Submitted, Adjudicated, Released, Withdrawn}
use Rattle.tb_refine.proofs.recording.total_row.Goals as goal

pub returns-in-Opened-clause-fails : goal.returns-in-Opened-clause-fails
returns-in-Opened-clause-fails c narrow bad = let row = narrow Opened in c.total_at.ensures.fails row.0 row.1 bad

pub returns-in-Assigned-clause-fails : goal.returns-in-Assigned-clause-fails
returns-in-Assigned-clause-fails c narrow bad = let row = narrow Assigned in c.total_at-in-Assigned.ensures.fails row.0 row.1 bad

pub returns-in-Submitted-clause-fails : goal.returns-in-Submitted-clause-fails
returns-in-Submitted-clause-fails c narrow bad = let row = narrow Submitted in c.total_at-in-Submitted.ensures.fails row.0 row.1 bad

pub returns-in-Adjudicated-clause-fails : goal.returns-in-Adjudicated-clause-fails
returns-in-Adjudicated-clause-fails c narrow bad = let row = narrow Adjudicated in c.total_at-in-Adjudicated.ensures.fails row.0 row.1 bad

pub returns-in-Released-clause-fails : goal.returns-in-Released-clause-fails
returns-in-Released-clause-fails c narrow bad = let row = narrow Released in c.total_at-in-Released.ensures.fails row.0 row.1 bad

pub returns-in-Withdrawn-clause-fails : goal.returns-in-Withdrawn-clause-fails
returns-in-Withdrawn-clause-fails c narrow bad = let row = narrow Withdrawn in c.total_at-in-Withdrawn.ensures.fails row.0 row.1 bad
