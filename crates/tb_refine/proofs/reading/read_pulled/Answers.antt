use Rattle.tb_core.specs.Rows.{pulled_from}
use Rattle.tb_reads.proofs.Shown.{if_ok}
use Rattle.tb_refine.specs.Faults.{fault_of_read}
use Rattle.tb_refine.proofs.Listing.{pulled_ascends}
use Rattle.tb_refine.proofs.DeskReads.{read_of}
use Rattle.tb_refine.proofs.Reported.{reported_if}
use Rattle.tb_refine.proofs.reading.read_pulled.Goals as goal

pub returns-clause-answered : goal.returns-clause-answered
returns-clause-answered g c clean =
    rw c.reported.ensures.value (reported_if fault_of_read _ c.pulled.result (if_ok c.pulled.result (c.pulled.ensures.order clean) (λ v read s desk. read desk.holds.schema (pulled_from 1 s.sentences) (pulled_ascends 1 s.sentences) desk.holds.stands.pulled)))

pub returns-clause-read : goal.returns-clause-read
returns-clause-read g c =
    read_of c.reported.result c.reported.ensures.never_refuses c.reported.ensures.output c.pulled.result c.reported.ensures.value c.pulled.ensures.fails c.pulled.ensures.cause c.pulled.ensures.read_only
    (λ clean s desk unfit.
    let readable = c.desk_rows_are_readable.ensures s desk.reachable in
    c.pulled.ensures.form clean unfit desk.holds.schema (pulled_from 1 s.sentences) readable.pulled (pulled_ascends 1 s.sentences) desk.holds.stands.pulled)
