use Rattle.std.proofs.Common.{map}
use Rattle.sqlite.specs.Held.{state}
use Rattle.tb_tables.specs.Values.{batch_of}
use Rattle.tb_reads.specs.Readable.{IsBatch}
use Rattle.tb_reads.proofs.Shown.{if_ok}
use Rattle.tb_refine.specs.DeskTables.{tables_of}
use Rattle.tb_refine.specs.Faults.{fault_of_read}
use Rattle.tb_refine.specs.Fitting.{IsReadableBatch}
use Rattle.tb_refine.proofs.Faultless.{fit}
use Rattle.tb_refine.proofs.Reported.{reported_if}
use Rattle.tb_refine.proofs.DeskReads.{read_of}
use Rattle.tb_lists.proofs.reading.read_batches.Goals as goal

pub returns-clause-answered : goal.returns-clause-answered
returns-clause-answered g c clean = rw c.reported.ensures.value (reported_if fault_of_read _ c.batches.result (if_ok c.batches.result (c.batches.ensures.ok clean) (λ v read s desk.
    let stands = desk.holds.stands in
    (c.one_list_for_the_rows.ensures (record (tables_of s) { batches = map batch_of v.items }) (tables_of s) ((state g.S.Store c.args.conn.now).now.trees) (record {
      listed = stands.listed;
      meta = stands.meta;
      batches = read desk.holds.schema;
      sentences = stands.sentences;
      revisions = stands.revisions;
      moves = stands.moves;
      totals = stands.totals;
      pulled = stands.pulled;
    }) stands).batches)))

pub returns-clause-read : goal.returns-clause-read
returns-clause-read g c =
    read_of c.reported.result c.reported.ensures.never_refuses c.reported.ensures.output c.batches.result c.reported.ensures.value c.batches.ensures.fails c.batches.ensures.cause c.batches.ensures.read_only
    (λ clean s desk unfit.
    let readable = c.desk_rows_are_readable.ensures s desk.reachable in
    let fits = fit IsReadableBatch IsBatch (λ y h. record { name_fits = h.name_fits; state_fits = h.state_fits; worker_fits = h.worker_fits }) (tables_of s).batches readable.batches in
    c.batches.ensures.form clean unfit desk.holds.schema (tables_of s).batches fits desk.holds.stands.batches)
