use Rattle.tb_refine.specs.DeskTables.{tables_of}
use Rattle.tb_reads.proofs.Shown.{if_ok}
use Rattle.tb_verify.proofs.TableReads.{read_reported}
use Rattle.tb_verify.proofs.Rises.{batches_fit}
use Rattle.tb_verify.proofs.reading.read_batches.Goals as goal

pub returns : goal.returns
returns g c = read_reported g.S.Store c.args.conn.now c.batches.new.conn c.batches.result c.reported.result _ _ c.reported.ensures.value c.reported.ensures.form c.reported.ensures.cause c.reported.ensures.never_refuses c.reported.ensures.output c.batches.ensures.sees
    c.batches.ensures.ok
    (λ clean. if_ok c.batches.result (c.batches.ensures.ok clean) (λ v read has s reach stands. tt))
    (λ clean failed has s reach stands. c.batches.ensures.form clean failed has (tables_of s).batches (batches_fit (tables_of s).batches (c.desk_rows_are_readable.ensures s reach).batches) stands.batches)
    c.batches.ensures.untouched c.batches.ensures.cause c.batches.ensures.read_only
