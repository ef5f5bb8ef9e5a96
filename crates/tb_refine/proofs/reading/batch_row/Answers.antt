use Rattle.std.proofs.Common.{◌-◌, arith}
use Rattle.tb_reads.specs.Readable.{IsBatch}
use Rattle.tb_tables.specs.Values.{batch_of}
use Rattle.tb_refine.specs.DeskTables.{tables_of, batch_record}
use Rattle.tb_refine.specs.Fitting.{IsReadableBatch}
use Rattle.tb_refine.proofs.Faultless.{fit}
use Rattle.tb_refine.proofs.Finds.{row_reported, none_lacks}
use Rattle.tb_refine.proofs.DeskReads.{read_nothing, row_of}
use Rattle.tb_refine.proofs.Reported.{row_if}
use Rattle.tb_refine.proofs.reading.batch_row.Goals as goal

pub returns-clause-answered : goal.returns-clause-answered
returns-clause-answered g c clean =
    rw c.reported_row.ensures.value (row_if _ c.batch.result (λ row read s desk x there.
    let ok = rw read at c.batch.ensures.ok in
    row_reported batch_record s.batches (c.args.number - 1) x (batch_of row) (ok clean desk.holds.schema (tables_of s).batches desk.holds.stands.batches) there))

pub returns-clause-read : goal.returns-clause-read
returns-clause-read g c =
    row_of c.reported_row.result c.reported_row.ensures.never_refuses c.reported_row.ensures.output c.batch.result c.reported_row.ensures.value c.batch.ensures.fails c.batch.ensures.cause c.batch.ensures.read_only
    (λ clean s desk so above x there. so
    (λ none.
    let ok = rw none at c.batch.ensures.ok in
    none_lacks batch_record s.batches (c.args.number - 1) x there (ok clean desk.holds.schema (tables_of s).batches desk.holds.stands.batches))
    (λ unfit.
    let readable = c.desk_rows_are_readable.ensures s desk.reachable in
    let fits = fit IsReadableBatch IsBatch (λ y h. record { name_fits = h.name_fits; state_fits = h.state_fits; worker_fits = h.worker_fits }) (tables_of s).batches readable.batches in
    c.batch.ensures.form clean unfit desk.holds.schema (tables_of s).batches fits desk.holds.stands.batches))

pub returns-then-number-eq0-clause-read : goal.returns-then-number-eq0-clause-read
returns-then-number-eq0-clause-read g c = read_nothing (λ s desk above. absurd (omega (arith, above, c.if-number-eq0.true)))
