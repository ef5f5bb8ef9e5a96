use Rattle.std.proofs.Common.{◌<◌, ◌^◌, length, arith}
use Rattle.tb_reads.proofs.Shown.{if_ok}
use Rattle.tb_refine.specs.DeskTables.{tables_of}
use Rattle.tb_refine.specs.Faults.{fault_of_read}
use Rattle.tb_refine.proofs.Names.{id_reported}
use Rattle.tb_refine.proofs.DeskReads.{read_of}
use Rattle.tb_refine.proofs.Reported.{reported_if}
use Rattle.tb_refine.proofs.reading.sentence_number.Goals as goal

pub returns-clause-answered : goal.returns-clause-answered
returns-clause-answered g c clean =
    rw c.reported.ensures.value (reported_if fault_of_read _ c.sentence_named.result (if_ok c.sentence_named.result (c.sentence_named.ensures.ok clean) (λ found read s desk. id_reported s c.args.sent_id.now found (read desk.holds.schema (tables_of s).sentences desk.holds.stands.sentences))))

pub returns-clause-read : goal.returns-clause-read
returns-clause-read g c =
    read_of c.reported.result c.reported.ensures.never_refuses c.reported.ensures.output c.sentence_named.result c.reported.ensures.value c.sentence_named.ensures.fails c.sentence_named.ensures.cause c.sentence_named.ensures.read_only
    (λ clean s desk unfit.
    let fitting = c.desk_rows_fit.ensures s desk.reachable in
    let few : length (tables_of s).sentences < 2 ^ 32 = let low = fitting.sentences_few in omega (arith, low) in
    c.sentence_named.ensures.form clean unfit desk.holds.schema (tables_of s).sentences few desk.holds.stands.sentences)
