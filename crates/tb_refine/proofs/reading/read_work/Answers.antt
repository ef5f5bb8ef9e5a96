use Rattle.std.proofs.Common.{map, ◌<◌, ◌^◌, length, arith}
use Rattle.tb_reads.specs.Readable.{IsSentence}
use Rattle.tb_reads.proofs.Shown.{if_ok}
use Rattle.tb_refine.specs.DeskTables.{sentence_record, tables_of}
use Rattle.tb_refine.specs.Faults.{fault_of_read}
use Rattle.tb_refine.specs.Fitting.{IsReadableSentence}
use Rattle.tb_refine.proofs.Faultless.{fit}
use Rattle.tb_refine.proofs.DeskReads.{read_of}
use Rattle.tb_refine.proofs.Reported.{reported_if}
use Rattle.tb_refine.proofs.reading.read_work.Goals as goal

pub returns-clause-answered : goal.returns-clause-answered
returns-clause-answered g c clean = rw c.reported.ensures.value (reported_if fault_of_read _ c.sentences_of.result (if_ok c.sentences_of.result (c.sentences_of.ensures.ok clean) (λ v read s desk. read desk.holds.schema (map sentence_record s.sentences) desk.holds.stands.sentences)))

pub returns-clause-read : goal.returns-clause-read
returns-clause-read g c =
    read_of c.reported.result c.reported.ensures.never_refuses c.reported.ensures.output c.sentences_of.result c.reported.ensures.value c.sentences_of.ensures.fails c.sentences_of.ensures.cause c.sentences_of.ensures.read_only
    (λ clean s desk unfit.
    let readable = c.desk_rows_are_readable.ensures s desk.reachable in
    let fitting = c.desk_rows_fit.ensures s desk.reachable in
    let few : length (tables_of s).sentences < 2 ^ 32 = let low = fitting.sentences_few in omega (arith, low) in
    let fits = fit IsReadableSentence IsSentence (λ y h. record { sent_id_fits = h.sent_id_fits; batch_fits = h.batch_fits; rev_fits = h.rev_fits; words_fits = h.words_fits }) (tables_of s).sentences readable.sentences in
    c.sentences_of.ensures.form clean unfit desk.holds.schema (tables_of s).sentences fits few desk.holds.stands.sentences)
