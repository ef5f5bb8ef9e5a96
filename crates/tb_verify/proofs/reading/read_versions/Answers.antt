use Rattle.std.proofs.Common.{[], ◌∷◌}
use Rattle.tb_reads.proofs.Shown.{if_ok}
use Rattle.tb_verify.proofs.TableReads.{read_reported}
use Rattle.tb_verify.proofs.Rises.{second_fits, second_rises}
use Rattle.tb_verify.proofs.reading.read_versions.Goals as goal

pub returns : goal.returns
returns g c = read_reported g.S.Store c.args.conn.now c.versions.new.conn c.versions.result c.reported.result _ _ c.reported.ensures.value c.reported.ensures.form c.reported.ensures.cause c.reported.ensures.never_refuses c.reported.ensures.output c.versions.ensures.sees
    c.versions.ensures.ok
    (λ clean. if_ok c.versions.result (c.versions.ensures.order clean) (λ v read has s reach stands. read has (2 ∷ []) second_rises stands.meta))
    (λ clean failed has s reach stands. c.versions.ensures.form clean failed has (2 ∷ []) second_fits second_rises stands.meta)
    c.versions.ensures.untouched c.versions.ensures.cause c.versions.ensures.read_only
