use Rattle.std.proofs.Common.{◌≡◌, ◌+◌, [], ◌∷◌, length, length-append, map, take, arith, rules, subst, sym, ap, ◌∙◌, ◌≢◌, Some, slice_get, Err, IfErr}
use Rattle.std.proofs.lemmas.Result.{err_from_is_err_and}
use Rattle.tb_reads.specs.declared.error.ReadError.TheVariants.{Form}
use Rattle.tb_tables.specs.Records.{numbered}
use Rattle.tb_reads.proofs.Reading.{read_more, form_here, first_read}
use Rattle.tb_reads.proofs.records.all_in.Goals as goal

pub returns-in_err-from_row-clause-form : goal.returns-in_err-from_row-clause-form
returns-in_err-from_row-clause-form g c reported =
    let shown = g.T.FromRow.shown in
    let reported_is = err_from_is_err_and c.from_residual.result c.from_residual.ensures.1 in
    let failed : c.from_row.result ≡ Err Form = let was = c.in_err-from_row.was in let is = reported_is.1 in let same = reported_is.2 in cc in
    form_here shown g.T.FromRow.Fits c.args.rows.now c.loop-row.row-index c.row-item.result (omega (arith, c.loop-row-test.true)) (search rules)
    (λ x fits is. c.from_row.ensures.form failed x fits (is ∙ ap (λ m. shown (m + 1) x) (sym c.loop-row.invariant.0)))

pub loop-row-preserved : goal.loop-row-preserved
loop-row-preserved g c =
    let shown = g.T.FromRow.shown in
    let plain = g.T.FromRow.plain in
    let inv = c.loop-row.invariant in
    let x = c.in_ok-from_row.field-0 in
    let items = c.in_ok-push.ensures.items in
    let more = read_more shown plain c.args.rows.now c.loop-row.found.items c.loop-row.row-index c.row-item.result x (omega (arith, c.loop-row-test.true)) inv.1 inv.2 (search rules)
    (c.in_ok-from_row.ensures.ok ∙ ap (λ m. shown (m + 1) (plain x)) inv.0) in (
      omega (arith, inv.0),
      ap length items ∙ length-append c.loop-row.found.items (x ∷ []) ∙ ap (λ m. m + 1) inv.1,
      subst (λ vs. take (c.loop-row.row-index + 1) c.args.rows.now ≡ numbered shown 1 (map plain vs)) (sym items) more,
    )

pub returns-in_err-from_row-clause-want : goal.returns-in_err-from_row-clause-want
returns-in_err-from_row-clause-want g c =
    let shown = g.T.FromRow.shown in
    let inv = c.loop-row.invariant in
    let reported = err_from_is_err_and c.from_residual.result c.from_residual.ensures.1 in
    subst (λ r. IfErr r (λ e. e ≢ Form → (x : g.T.FromRow.Plain) × (slice_get c.args.rows.now 0 ≡ Some (shown 1 x)))) (sym reported.1) (λ other.
    let read = c.in_err-from_row.ensures.want (λ form. other (reported.2 ∙ form)) in
    first_read shown g.T.FromRow.plain c.args.rows.now c.loop-row.found.items c.loop-row.row-index c.row-item.result read.1 (omega (arith, c.loop-row-test.true)) inv.1 inv.2 (search rules)
    (read.3 ∙ ap (λ m. shown (m + 1) read.1) inv.0))

pub returns-in_err-push-clause-want : goal.returns-in_err-push-clause-want
returns-in_err-push-clause-want g c =
    let shown = g.T.FromRow.shown in
    let plain = g.T.FromRow.plain in
    let inv = c.loop-row.invariant in
    let reported = err_from_is_err_and c.from_residual-in_err-push.result c.from_residual-in_err-push.ensures.1 in
    let x = plain c.in_ok-from_row.field-0 in
    subst (λ r. IfErr r (λ e. e ≢ Form → (y : g.T.FromRow.Plain) × (slice_get c.args.rows.now 0 ≡ Some (shown 1 y)))) (sym reported.1) (λ _.
    first_read shown plain c.args.rows.now c.loop-row.found.items c.loop-row.row-index c.row-item.result x (omega (arith, c.loop-row-test.true)) inv.1 inv.2 (search rules)
    (c.in_ok-from_row.ensures.ok ∙ ap (λ m. shown (m + 1) x) inv.0))
