use Rattle.std.proofs.Common.{◌≡◌, rules, subst}
use Rattle.tb_reads.specs.Found.{HasUnreadable, ShowsFirst}
use Rattle.tb_reads.proofs.ReadOnly.{read_on, read_failed}
use Rattle.tb_reads.proofs.Shown.{if_ok}
use Rattle.tb_reads.proofs.fetch.fetch_first.Goals as goal

pub returns-clause-shown : goal.returns-clause-shown
returns-clause-shown g c clean = if_ok c.first_in.result c.first_in.ensures.first (λ found first.
    let same : c.as_slice.result.now ≡ c.in_ok-rows.rows.items = search rules in
    (c.in_ok-rows.rows.items, c.in_ok-rows.ensures.shown clean, subst (λ rows. ShowsFirst (λ x. g.T.FromRow.shown c.args.number (g.T.FromRow.plain x)) rows found) same first))

pub returns-clause-form : goal.returns-clause-form
returns-clause-form g c clean failed =
    let same : c.as_slice.result.now ≡ c.in_ok-rows.rows.items = search rules in
    (c.in_ok-rows.rows.items, c.in_ok-rows.ensures.shown clean, subst (HasUnreadable g.T.FromRow.Fits (g.T.FromRow.shown c.args.number)) same (c.first_in.ensures.form failed))

pub returns-clause-read_only : goal.returns-clause-read_only
returns-clause-read_only g c = read_on _ c.in_ok-rows.ensures.read_only

pub returns-in_err-rows-clause-read_only : goal.returns-in_err-rows-clause-read_only
returns-in_err-rows-clause-read_only g c = read_failed c.from_residual.result _ c.from_residual.ensures.1 c.fetch_rows.ensures.read_only
