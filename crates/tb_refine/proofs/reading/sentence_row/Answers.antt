use Rattle.std.proofs.Common.{◌-◌}
use Rattle.tb_reads.specs.Readable.{IsSentence}
use Rattle.tb_tables.specs.Values.{sentence_of}
use Rattle.tb_refine.specs.DeskTables.{tables_of, sentence_record}
use Rattle.tb_refine.specs.Fitting.{IsReadableSentence}
use Rattle.tb_refine.proofs.Faultless.{fit}
use Rattle.tb_refine.proofs.Finds.{row_reported, none_lacks}
use Rattle.tb_refine.proofs.DeskReads.{row_of}
use Rattle.tb_refine.proofs.Reported.{row_if}
use Rattle.tb_refine.proofs.reading.sentence_row.Goals as goal

pub returns-clause-answered : goal.returns-clause-answered
returns-clause-answered g c clean =
    rw c.reported_row.ensures.value (row_if _ c.sentence.result (λ row read s desk x there.
    let ok = rw read at c.sentence.ensures.ok in
    row_reported sentence_record s.sentences (c.args.number - 1) x (sentence_of row) (ok clean desk.holds.schema (tables_of s).sentences desk.holds.stands.sentences) there))

pub returns-clause-read : goal.returns-clause-read
returns-clause-read g c =
    row_of c.reported_row.result c.reported_row.ensures.never_refuses c.reported_row.ensures.output c.sentence.result c.reported_row.ensures.value c.sentence.ensures.fails c.sentence.ensures.cause c.sentence.ensures.read_only
    (λ clean s desk so x there. so
    (λ none.
    let ok = rw none at c.sentence.ensures.ok in
    none_lacks sentence_record s.sentences (c.args.number - 1) x there (ok clean desk.holds.schema (tables_of s).sentences desk.holds.stands.sentences))
    (λ unfit.
    let readable = c.desk_rows_are_readable.ensures s desk.reachable in
    let fits = fit IsReadableSentence IsSentence (λ y h. record { sent_id_fits = h.sent_id_fits; batch_fits = h.batch_fits; rev_fits = h.rev_fits; words_fits = h.words_fits }) (tables_of s).sentences readable.sentences in
    c.sentence.ensures.form clean unfit desk.holds.schema (tables_of s).sentences fits desk.holds.stands.sentences))
