use Rattle.std.proofs.Common.{◌≡◌, length, pos, arith, rules, ap, ◌∙◌}
use Rattle.sqlite.specs.declared.types.Value.TheVariants.{Int}
use Rattle.sqlite.specs.Order.{column}
use Rattle.tb_reads.proofs.Columns.{same_row}
use Rattle.tb_reads.proofs.Unread.{unread_form, unread_want}
use Rattle.tb_reads.proofs.records.SentenceRowFromRow.from_row.Goals as goal

pub returns-in_err-sent_id-clause-form : goal.returns-in_err-sent_id-clause-form
returns-in_err-sent_id-clause-form c failed x fits is =
    unread_form c.from_residual-in_err-sent_id.result _ c.from_residual-in_err-sent_id.ensures.1 c.in_err-sent_id.ensures.fault failed
    (x.sent_id, fits.sent_id_fits, ap (λ r. column r 1) is)

pub returns-in_err-sent_id-clause-want : goal.returns-in_err-sent_id-clause-want
returns-in_err-sent_id-clause-want c =
    let len : length c.args.row.now ≡ 5 = omega (arith, c.column_count.ensures, c.if-column_count-ne5.false) in
    let key : c.in_ok-key_at.field-0 ≡ c.args.number = omega (arith, c.if-branch-number.false) in
    unread_want c.from_residual-in_err-sent_id.result _ c.from_residual-in_err-sent_id.ensures.1 c.in_err-sent_id.ensures.fault (λ text. (
      tt,
      record { sent_id = text.0; batch = c.in_ok-batch.batch; rev = c.in_ok-rev.rev; words = c.in_ok-words.words },
      record { sent_id_fits = text.1; batch_fits = search rules; rev_fits = search rules; words_fits = search rules },
      same_row c.args.row.now _ len (
        c.in_ok-key_at.ensures.ok ∙ ap (λ n. Int (pos n)) key,
        (text.2, (c.in_ok-batch.ensures.ok, (c.in_ok-rev.ensures.ok, (c.in_ok-words.ensures.ok, tt)))),
      ),
    ))

pub returns-clause-ok : goal.returns-clause-ok
returns-clause-ok c =
    let len : length c.args.row.now ≡ 5 = omega (arith, c.column_count.ensures, c.if-column_count-ne5.false) in
    let key : c.in_ok-key_at.field-0 ≡ c.args.number = omega (arith, c.if-branch-number.false) in
    same_row c.args.row.now _ len (
      c.in_ok-key_at.ensures.ok ∙ ap (λ n. Int (pos n)) key,
      (c.in_ok-sent_id.ensures.ok, (c.in_ok-batch.ensures.ok, (c.in_ok-rev.ensures.ok, (c.in_ok-words.ensures.ok, tt)))),
    )
