use Rattle.std.proofs.Common.{map}
use Rattle.sqlite.specs.Held.{state}
use Rattle.tb_tables.specs.Values.{total_of}
use Rattle.tb_reads.specs.Readable.{IsTotal}
use Rattle.tb_reads.proofs.Shown.{if_ok}
use Rattle.tb_refine.specs.DeskTables.{tables_of}
use Rattle.tb_refine.specs.Faults.{fault_of_read}
use Rattle.tb_refine.specs.Fitting.{IsReadableTotal}
use Rattle.tb_refine.proofs.Faultless.{fit}
use Rattle.tb_refine.proofs.Reported.{reported_if}
use Rattle.tb_refine.proofs.DeskReads.{read_of}
use Rattle.tb_store.proofs.asking.total_rows.Goals as goal

pub returns-clause-answered : goal.returns-clause-answered
returns-clause-answered g c clean = rw c.reported.ensures.value (reported_if fault_of_read _ c.totals.result (if_ok c.totals.result (c.totals.ensures.ok clean) (λ v read s desk.
    let stands = desk.holds.stands in
    (c.one_list_for_the_rows.ensures (record (tables_of s) { totals = map total_of v.items }) (tables_of s) ((state g.S.Store c.args.conn.now).now.trees) (record {
      listed = stands.listed;
      meta = stands.meta;
      batches = stands.batches;
      sentences = stands.sentences;
      revisions = stands.revisions;
      moves = stands.moves;
      totals = read desk.holds.schema;
      pulled = stands.pulled;
    }) stands).totals)))

pub returns-clause-read : goal.returns-clause-read
returns-clause-read g c =
    read_of c.reported.result c.reported.ensures.never_refuses c.reported.ensures.output c.totals.result c.reported.ensures.value c.totals.ensures.fails c.totals.ensures.cause c.totals.ensures.read_only
    (λ clean s desk unfit.
    let readable = c.desk_rows_are_readable.ensures s desk.reachable in
    let fits = fit IsReadableTotal IsTotal (λ x h. record { sentences_fits = h.sentences_fits; words_fits = h.words_fits }) (tables_of s).totals readable.totals in
    c.totals.ensures.form clean unfit desk.holds.schema (tables_of s).totals fits desk.holds.stands.totals)
