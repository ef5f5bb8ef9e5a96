use Rattle.std.proofs.Common.{ap}
use Rattle.tb_tables.specs.Records.{Sentence}
use Rattle.tb_refine.proofs.DeskReads.{read_stopped, read_well}
use Rattle.tb_store.proofs.asking.current.Goals as goal

pub returns-clause-answered : goal.returns-clause-answered
returns-clause-answered g c clean s desk x there = ap (λ (r : Sentence). r.rev) (c.in_ok-row.ensures.answered clean s desk x there)

pub returns-in_err-row-clause-read : goal.returns-in_err-row-clause-read
returns-in_err-row-clause-read g c =
    read_stopped c.from_residual.result c.in_err-row.field-0.0 c.from_residual.ensures.1 c.in_err-row.ensures.read (λ clean s desk fails on x there. on (fails x there))

pub returns-clause-read : goal.returns-clause-read
returns-clause-read g c = read_well c.in_ok-row.ensures.read.read_only (λ s fine x there. fine)
