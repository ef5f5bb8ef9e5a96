use Rattle.std.proofs.Common.{◌<◌, ◌^◌, length, arith}
use Rattle.tb_reads.proofs.Shown.{if_ok}
use Rattle.tb_refine.specs.DeskTables.{tables_of}
use Rattle.tb_refine.specs.Faults.{fault_of_read}
use Rattle.tb_refine.proofs.Names.{number_reported}
use Rattle.tb_refine.proofs.DeskReads.{read_of}
use Rattle.tb_refine.proofs.Reported.{reported_if}
use Rattle.tb_refine.proofs.reading.batch_number.Goals as goal

pub returns-clause-answered : goal.returns-clause-answered
returns-clause-answered g c clean =
    rw c.reported.ensures.value (reported_if fault_of_read _ c.batch_named.result (if_ok c.batch_named.result (c.batch_named.ensures.ok clean) (λ found read s desk. number_reported s c.args.name.now found (read desk.holds.schema (tables_of s).batches desk.holds.stands.batches))))

pub returns-clause-read : goal.returns-clause-read
returns-clause-read g c =
    read_of c.reported.result c.reported.ensures.never_refuses c.reported.ensures.output c.batch_named.result c.reported.ensures.value c.batch_named.ensures.fails c.batch_named.ensures.cause c.batch_named.ensures.read_only
    (λ clean s desk unfit.
    let fitting = c.desk_rows_fit.ensures s desk.reachable in
    let few : length (tables_of s).batches < 2 ^ 32 = let low = fitting.batches_few in omega (arith, low) in
    c.batch_named.ensures.form clean unfit desk.holds.schema (tables_of s).batches few desk.holds.stands.batches)
