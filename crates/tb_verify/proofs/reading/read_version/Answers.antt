use Rattle.std.proofs.Common.{map, subst, sym, ◌∙◌}
use Rattle.std.proofs.lemmas.Result.{err_from_is_err_and}
use Rattle.tb_tables.specs.Records.{Shows, number_shown, meta_view}
use Rattle.tb_verify.proofs.TableReads.{read_failed, read_tested}
use Rattle.tb_verify.proofs.reading.read_version.Goals as goal

pub returns-in_err-versions : goal.returns-in_err-versions
returns-in_err-versions g c =
    let p = err_from_is_err_and c.from_residual.result c.from_residual.ensures.1 in
    read_failed g.S.Store c.args.conn.now c.read_versions.new.conn c.in_err-versions.field-0.0 p.0 c.from_residual.result _ _ _ _ p.1 p.2 c.in_err-versions.ensures

pub returns : goal.returns
returns g c =
    let slice = c.as_slice.ensures.value in
    read_tested g.S.Store c.args.conn.now c.read_versions.new.conn c.in_ok-versions.versions c.test_version.result _ _ _ _ c.in_ok-versions.ensures c.test_version.ensures.right c.test_version.ensures.wrong
    (λ t shown second. subst (λ items. Shows meta_view (map number_shown items) (t 0)) (sym slice ∙ second) shown)
    (λ d second. slice ∙ second)
