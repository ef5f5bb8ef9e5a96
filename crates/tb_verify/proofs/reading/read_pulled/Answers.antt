use Rattle.tb_refine.specs.DeskTables.{tables_of}
use Rattle.tb_reads.proofs.Shown.{if_ok}
use Rattle.tb_verify.proofs.TableReads.{read_reported}
use Rattle.tb_verify.proofs.Rises.{pulled_rise}
use Rattle.tb_verify.proofs.reading.read_pulled.Goals as goal

pub returns : goal.returns
returns g c = read_reported g.S.Store c.args.conn.now c.pulled.new.conn c.pulled.result c.reported.result _ _ c.reported.ensures.value c.reported.ensures.form c.reported.ensures.cause c.reported.ensures.never_refuses c.reported.ensures.output c.pulled.ensures.sees
    c.pulled.ensures.ok
    (λ clean. if_ok c.pulled.result (c.pulled.ensures.order clean) (λ v read has s reach stands. read has (tables_of s).pulled (pulled_rise 1 s.sentences) stands.pulled))
    (λ clean failed has s reach stands. c.pulled.ensures.form clean failed has (tables_of s).pulled (c.desk_rows_are_readable.ensures s reach).pulled (pulled_rise 1 s.sentences) stands.pulled)
    c.pulled.ensures.untouched c.pulled.ensures.cause c.pulled.ensures.read_only
