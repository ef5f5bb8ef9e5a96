use Rattle.std.proofs.Common.{sym, ap, ◌∙◌}
use Rattle.tb_search.specs.declared.stopped.Stopped.TheVariants.{Read}
use Rattle.tb_refine.proofs.Faultless.{read_reported, want_reported}
use Rattle.tb_store.proofs.stopping.fault_of.Goals as goal

pub returns-in-Read-clause-fails : goal.returns-in-Read-clause-fails
returns-in-Read-clause-fails c fault stop bad = read_reported c.in-Read.error (rw c.in-Read.is at stop) (λ unfit. fault (c.in-Read.is ∙ ap Read unfit)) (sym c.of_read.ensures.value ∙ bad)

pub returns-in-Read-clause-cause : goal.returns-in-Read-clause-cause
returns-in-Read-clause-cause c want bad = want_reported c.in-Read.error (rw c.in-Read.is at want) (sym c.of_read.ensures.value ∙ bad)
