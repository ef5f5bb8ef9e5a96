use Rattle.std.proofs.Common.{◌≡◌, length, pos, arith, rules, ap, ◌∙◌}
use Rattle.sqlite.specs.declared.types.Value.TheVariants.{Int}
use Rattle.sqlite.specs.Order.{column}
use Rattle.tb_reads.proofs.Columns.{same_row}
use Rattle.tb_reads.proofs.Unread.{unread_form, unread_want}
use Rattle.tb_reads.proofs.records.BatchRowFromRow.from_row.Goals as goal

pub returns-in_err-name-clause-form : goal.returns-in_err-name-clause-form
returns-in_err-name-clause-form c failed x fits is =
    unread_form c.from_residual-in_err-name.result _ c.from_residual-in_err-name.ensures.1 c.in_err-name.ensures.fault failed (
      (x.name, fits.name_fits, ap (λ r. column r 1) is),
      (x.worker, fits.worker_fits, ap (λ r. column r 3) is),
    )

pub returns-in_err-name-clause-want : goal.returns-in_err-name-clause-want
returns-in_err-name-clause-want c =
    let len : length c.args.row.now ≡ 4 = omega (arith, c.column_count.ensures, c.if-column_count-ne4.false) in
    let key : c.in_ok-key_at.field-0 ≡ c.args.number = omega (arith, c.if-branch-number.false) in
    unread_want c.from_residual-in_err-name.result _ c.from_residual-in_err-name.ensures.1 c.in_err-name.ensures.fault (λ (name, worker). (
      tt,
      record { name = name.0; state = c.in_ok-state.state; worker = worker.0 },
      record { name_fits = name.1; state_fits = search rules; worker_fits = worker.1 },
      same_row c.args.row.now _ len (c.in_ok-key_at.ensures.ok ∙ ap (λ n. Int (pos n)) key, (name.2, (c.in_ok-state.ensures.ok, (worker.2, tt)))),
    ))
