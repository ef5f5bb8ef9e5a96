use Rattle.tb_tables.specs.Values.{revision_of}
use Rattle.tb_reads.specs.Readable.{IsRevision}
use Rattle.tb_refine.specs.DeskTables.{tables_of}
use Rattle.tb_refine.specs.Fitting.{IsReadableRevision}
use Rattle.tb_refine.proofs.Faultless.{fit}
use Rattle.tb_refine.proofs.DeskReads.{row_of}
use Rattle.tb_refine.proofs.Reported.{row_if}
use Rattle.tb_refine.proofs.Revised.{revision_found}
use Rattle.tb_refine.proofs.RowsOfState.{revision_reported}
use Rattle.tb_refine.proofs.reading.revision_row.Goals as goal

pub returns-clause-answered : goal.returns-clause-answered
returns-clause-answered g c clean =
    rw c.reported_row.ensures.value (row_if _ c.revision.result (λ row read s desk x there.
    let ok = rw read at c.revision.ensures.ok in
    let it = revision_reported s x c.args.number c.args.rev (revision_of row) c.requires there (ok clean desk.holds.schema (tables_of s).revisions desk.holds.stands.revisions) in
    (it.0, it.1, it.2.0, it.2.1)))

pub returns-clause-read : goal.returns-clause-read
returns-clause-read g c =
    row_of c.reported_row.result c.reported_row.ensures.never_refuses c.reported_row.ensures.output c.revision.result c.reported_row.ensures.value c.revision.ensures.fails c.revision.ensures.cause c.revision.ensures.read_only
    (λ clean s desk so x there q has. so
    (λ none.
    let ok = rw none at c.revision.ensures.ok in
    revision_found s c.args.number c.args.rev x q c.requires there has (ok clean desk.holds.schema (tables_of s).revisions desk.holds.stands.revisions))
    (λ unfit.
    let readable = c.desk_rows_are_readable.ensures s desk.reachable in
    let fits = fit IsReadableRevision IsRevision (λ r h. record { sent_fits = h.sent_fits; rev_fits = h.rev_fits; who_fits = h.who_fits; body_fits = h.body_fits }) (tables_of s).revisions readable.revisions in
    c.revision.ensures.form clean unfit desk.holds.schema (tables_of s).revisions fits desk.holds.stands.revisions))
