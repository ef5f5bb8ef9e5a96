use Rattle.tb_refine.specs.DeskTables.{tables_of}
use Rattle.tb_reads.proofs.Shown.{if_ok}
use Rattle.tb_verify.proofs.TableReads.{read_reported}
use Rattle.tb_verify.proofs.Rises.{totals_fit}
use Rattle.tb_verify.proofs.reading.read_totals.Goals as goal

pub returns : goal.returns
returns g c = read_reported g.S.Store c.args.conn.now c.totals.new.conn c.totals.result c.reported.result _ _ c.reported.ensures.value c.reported.ensures.form c.reported.ensures.cause c.reported.ensures.never_refuses c.reported.ensures.output c.totals.ensures.sees
    c.totals.ensures.ok
    (λ clean. if_ok c.totals.result (c.totals.ensures.ok clean) (λ v read has s reach stands. tt))
    (λ clean failed has s reach stands. c.totals.ensures.form clean failed has (tables_of s).totals (totals_fit (tables_of s).totals (c.desk_rows_are_readable.ensures s reach).totals) stands.totals)
    c.totals.ensures.untouched c.totals.ensures.cause c.totals.ensures.read_only
