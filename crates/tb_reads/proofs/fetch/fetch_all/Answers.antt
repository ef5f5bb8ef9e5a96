use Rattle.std.proofs.Common.{◌≡◌, rules, subst, sym, ◌∙◌}
use Rattle.sqlite.specs.Held.{state}
use Rattle.sqlite.specs.State.{Shown}
use Rattle.sqlite.specs.Values.{bound}
use Rattle.tb_reads.proofs.ReadOnly.{read_on, read_failed}
use Rattle.tb_reads.proofs.Shown.{if_ok}
use Rattle.tb_reads.proofs.fetch.fetch_all.Goals as goal

pub returns-clause-shown : goal.returns-clause-shown
returns-clause-shown g c clean = if_ok c.all_in.result c.all_in.ensures.ok (λ v is.
    let same : c.as_slice.result.now ≡ c.in_ok-rows.rows.items = search rules in
    subst (Shown c.args.sql.now (bound c.args.params.now) (state g.S.Store c.args.conn.now) (state g.S.Store c.fetch_rows.new.conn)) (sym same ∙ is) (c.in_ok-rows.ensures.shown clean))

pub returns-clause-form : goal.returns-clause-form
returns-clause-form g c clean failed =
    let same : c.as_slice.result.now ≡ c.in_ok-rows.rows.items = search rules in
    (c.in_ok-rows.rows.items, c.in_ok-rows.ensures.shown clean, λ xs each is. c.all_in.ensures.form failed xs each (same ∙ is))

pub returns-clause-untouched : goal.returns-clause-untouched
returns-clause-untouched g c clean form has = c.in_ok-rows.ensures.read_only.unchanged clean has

pub returns-clause-read_only : goal.returns-clause-read_only
returns-clause-read_only g c = read_on _ c.in_ok-rows.ensures.read_only

pub returns-in_err-rows-clause-read_only : goal.returns-in_err-rows-clause-read_only
returns-in_err-rows-clause-read_only g c = read_failed c.from_residual.result _ c.from_residual.ensures.1 c.fetch_rows.ensures.read_only
