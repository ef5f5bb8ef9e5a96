use Rattle.std.proofs.Common.{map}
use Rattle.sqlite.specs.Held.{state}
use Rattle.tb_tables.specs.Values.{sentence_of}
use Rattle.tb_reads.specs.Readable.{IsSentence}
use Rattle.tb_reads.proofs.Shown.{if_ok}
use Rattle.tb_refine.specs.DeskTables.{tables_of}
use Rattle.tb_refine.specs.Faults.{fault_of_read}
use Rattle.tb_refine.specs.Fitting.{IsReadableSentence}
use Rattle.tb_refine.proofs.Faultless.{fit}
use Rattle.tb_refine.proofs.Reported.{reported_if}
use Rattle.tb_refine.proofs.DeskReads.{read_of}
use Rattle.tb_lists.proofs.reading.read_sentences.Goals as goal

pub returns-clause-answered : goal.returns-clause-answered
returns-clause-answered g c clean = rw c.reported.ensures.value (reported_if fault_of_read _ c.sentences.result (if_ok c.sentences.result (c.sentences.ensures.ok clean) (λ v read s desk.
    let stands = desk.holds.stands in
    (c.one_list_for_the_rows.ensures (record (tables_of s) { sentences = map sentence_of v.items }) (tables_of s) ((state g.S.Store c.args.conn.now).now.trees) (record {
      listed = stands.listed;
      meta = stands.meta;
      batches = stands.batches;
      sentences = read desk.holds.schema;
      revisions = stands.revisions;
      moves = stands.moves;
      totals = stands.totals;
      pulled = stands.pulled;
    }) stands).sentences)))

pub returns-clause-read : goal.returns-clause-read
returns-clause-read g c =
    read_of c.reported.result c.reported.ensures.never_refuses c.reported.ensures.output c.sentences.result c.reported.ensures.value c.sentences.ensures.fails c.sentences.ensures.cause c.sentences.ensures.read_only
    (λ clean s desk unfit.
    let readable = c.desk_rows_are_readable.ensures s desk.reachable in
    let fits = fit IsReadableSentence IsSentence (λ y h. record { sent_id_fits = h.sent_id_fits; batch_fits = h.batch_fits; rev_fits = h.rev_fits; words_fits = h.words_fits }) (tables_of s).sentences readable.sentences in
    c.sentences.ensures.form clean unfit desk.holds.schema (tables_of s).sentences fits desk.holds.stands.sentences)
