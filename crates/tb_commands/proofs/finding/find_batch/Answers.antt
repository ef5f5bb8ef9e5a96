use Rattle.tb_reads.proofs.ReadOnly.{read_then}
use Rattle.tb_refine.proofs.DeskReads.{next_stopped, read_stopped, read_well}
use Rattle.tb_commands.proofs.finding.find_batch.Goals as goal

pub returns-in_err-number-clause-read : goal.returns-in_err-number-clause-read
returns-in_err-number-clause-read g c =
    read_stopped c.from_residual.result c.in_err-number.field-0.0 c.from_residual.ensures.1 c.in_err-number.ensures.read (λ clean s desk fails on. on fails)

pub returns-in_err-found-clause-read : goal.returns-in_err-found-clause-read
returns-in_err-found-clause-read g c =
    next_stopped c.from_residual-in_err-found.result c.in_err-found.field-0.0 c.from_residual-in_err-found.ensures.1 c.in_ok-number.ensures.read.read_only c.in_err-found.ensures.read (λ mid s desk fails on.
    let has = rw c.in-Some.is at c.in_ok-number.ensures.answered in
    let it = has mid s desk in
    on (fails it.1 it.0 it.2))

pub returns-in_default-clause-read : goal.returns-in_default-clause-read
returns-in_default-clause-read g c = read_well c.in_ok-number.ensures.read.read_only (λ s fine. fine)

pub returns-clause-read : goal.returns-clause-read
returns-clause-read g c = read_well (read_then c.in_ok-number.ensures.read.read_only c.in_ok-found.ensures.read.read_only) (λ s fine. fine)
