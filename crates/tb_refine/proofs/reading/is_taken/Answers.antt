use Rattle.tb_refine.proofs.Names.{id_taken}
use Rattle.tb_refine.proofs.DeskReads.{read_stopped, read_well}
use Rattle.tb_refine.proofs.reading.is_taken.Goals as goal

pub returns-clause-answered : goal.returns-clause-answered
returns-clause-answered g c clean s desk = rw c.is_some.ensures (id_taken s c.args.sent_id.now c.in_ok-found.found (c.in_ok-found.ensures.answered clean s desk))

pub returns-in_err-found-clause-read : goal.returns-in_err-found-clause-read
returns-in_err-found-clause-read g c =
    read_stopped c.from_residual.result c.in_err-found.field-0.0 c.from_residual.ensures.1 c.in_err-found.ensures.read (λ clean s desk fails on. on fails)

pub returns-clause-read : goal.returns-clause-read
returns-clause-read g c = read_well c.in_ok-found.ensures.read.read_only (λ s fine. fine)
