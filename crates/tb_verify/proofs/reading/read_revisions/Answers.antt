use Rattle.tb_refine.specs.DeskTables.{tables_of}
use Rattle.tb_reads.proofs.Shown.{if_ok}
use Rattle.tb_verify.proofs.TableReads.{read_reported}
use Rattle.tb_verify.proofs.Rises.{revisions_fit, revisions_rise}
use Rattle.tb_verify.proofs.reading.read_revisions.Goals as goal

pub returns : goal.returns
returns g c = read_reported g.S.Store c.args.conn.now c.revisions.new.conn c.revisions.result c.reported.result _ _ c.reported.ensures.value c.reported.ensures.form c.reported.ensures.cause c.reported.ensures.never_refuses c.reported.ensures.output c.revisions.ensures.sees
    c.revisions.ensures.ok
    (λ clean. if_ok c.revisions.result (c.revisions.ensures.order clean) (λ v read has s reach stands. read has (tables_of s).revisions (revisions_fit (tables_of s).revisions (c.desk_rows_are_readable.ensures s reach).revisions) (revisions_rise 1 s.sentences) stands.revisions))
    (λ clean failed has s reach stands. c.revisions.ensures.form clean failed has (tables_of s).revisions (revisions_fit (tables_of s).revisions (c.desk_rows_are_readable.ensures s reach).revisions) (revisions_rise 1 s.sentences) stands.revisions)
    c.revisions.ensures.untouched c.revisions.ensures.cause c.revisions.ensures.read_only
