use Rattle.std.proofs.Common.{◌≡◌, length, arith, rules, ap}
use Rattle.sqlite.specs.Order.{column}
use Rattle.tb_reads.proofs.Columns.{same_row}
use Rattle.tb_reads.proofs.Unread.{unread_form, unread_want}
use Rattle.tb_reads.proofs.records.RevisionRowFromRow.from_row.Goals as goal

pub returns-in_err-who-clause-form : goal.returns-in_err-who-clause-form
returns-in_err-who-clause-form c failed x fits is =
    unread_form c.from_residual-in_err-who.result _ c.from_residual-in_err-who.ensures.1 c.in_err-who.ensures.fault failed (
      (x.who, fits.who_fits, ap (λ r. column r 2) is),
      (x.body, fits.body_fits, ap (λ r. column r 3) is),
    )

pub returns-in_err-who-clause-want : goal.returns-in_err-who-clause-want
returns-in_err-who-clause-want c =
    let len : length c.args.row.now ≡ 4 = omega (arith, c.column_count.ensures, c.if-column_count-ne4.false) in
    unread_want c.from_residual-in_err-who.result _ c.from_residual-in_err-who.ensures.1 c.in_err-who.ensures.fault (λ (who, body). (
      tt,
      record { sent = c.in_ok-sent.sent; rev = c.in_ok-rev.rev; who = who.0; body = body.0 },
      record { sent_fits = search rules; rev_fits = search rules; who_fits = who.1; body_fits = body.1 },
      same_row c.args.row.now _ len (c.in_ok-sent.ensures.ok, (c.in_ok-rev.ensures.ok, (who.2, (body.2, tt)))),
    ))
