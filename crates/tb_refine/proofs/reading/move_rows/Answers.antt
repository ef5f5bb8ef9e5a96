use Rattle.std.proofs.Common.{map}
use Rattle.sqlite.specs.Held.{state}
use Rattle.tb_tables.specs.Values.{move_of}
use Rattle.tb_reads.specs.Readable.{IsMove}
use Rattle.tb_reads.proofs.Shown.{if_ok}
use Rattle.tb_refine.specs.DeskTables.{tables_of}
use Rattle.tb_refine.specs.Faults.{fault_of_read}
use Rattle.tb_refine.specs.Fitting.{IsReadableMove}
use Rattle.tb_refine.proofs.Faultless.{fit}
use Rattle.tb_refine.proofs.DeskReads.{read_of}
use Rattle.tb_refine.proofs.Reported.{reported_if}
use Rattle.tb_refine.proofs.reading.move_rows.Goals as goal

pub returns-clause-answered : goal.returns-clause-answered
returns-clause-answered g c clean = rw c.reported.ensures.value (reported_if fault_of_read _ c.moves.result (if_ok c.moves.result (c.moves.ensures.ok clean) (λ v read s desk.
    let stands = desk.holds.stands in
    (c.one_list_for_the_rows.ensures (record (tables_of s) { moves = map move_of v.items }) (tables_of s) ((state g.S.Store c.args.conn.now).now.trees) (record {
      listed = stands.listed;
      meta = stands.meta;
      batches = stands.batches;
      sentences = stands.sentences;
      revisions = stands.revisions;
      moves = read desk.holds.schema;
      totals = stands.totals;
      pulled = stands.pulled;
    }) stands).moves)))

pub returns-clause-read : goal.returns-clause-read
returns-clause-read g c =
    read_of c.reported.result c.reported.ensures.never_refuses c.reported.ensures.output c.moves.result c.reported.ensures.value c.moves.ensures.fails c.moves.ensures.cause c.moves.ensures.read_only
    (λ clean s desk unfit.
    let readable = c.desk_rows_are_readable.ensures s desk.reachable in
    let fits = fit IsReadableMove IsMove (λ x h. record {
      kind_fits = h.kind_fits;
      batch_fits = h.batch_fits;
      sent_fits = h.sent_fits;
      from_fits = h.from_fits;
      to_fits = h.to_fits;
      sentences_fits = h.sentences_fits;
      words_out_fits = h.words_out_fits;
      words_in_fits = h.words_in_fits;
      who_fits = h.who_fits;
    }) (tables_of s).moves readable.moves in
    c.moves.ensures.form clean unfit desk.holds.schema (tables_of s).moves fits desk.holds.stands.moves)
