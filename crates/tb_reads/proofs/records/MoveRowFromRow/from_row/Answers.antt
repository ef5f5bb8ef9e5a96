use Rattle.std.proofs.Common.{◌≡◌, length, pos, arith, rules, ap, ◌∙◌}
use Rattle.sqlite.specs.declared.types.Value.TheVariants.{Int}
use Rattle.sqlite.specs.Order.{column}
use Rattle.tb_reads.proofs.Columns.{same_row}
use Rattle.tb_reads.proofs.Unread.{unread_form, unread_want}
use Rattle.tb_reads.proofs.records.MoveRowFromRow.from_row.Goals as goal

pub returns-clause-ok : goal.returns-clause-ok
returns-clause-ok c =
    let len : length c.args.row.now ≡ 10 = omega (arith, c.column_count.ensures, c.if-column_count-ne10.false) in
    let key : c.in_ok-key_at.field-0 ≡ c.args.number = omega (arith, c.if-branch-number.false) in
    same_row c.args.row.now _ len (
      c.in_ok-key_at.ensures.ok ∙ ap (λ n. Int (pos n)) key,
      (
        c.in_ok-kind.ensures.ok,
        (
          c.in_ok-batch.ensures.ok,
          (
            c.in_ok-sent.ensures.ok,
            (
              c.in_ok-from.ensures.ok,
              (c.in_ok-to.ensures.ok, (c.in_ok-sentences.ensures.ok, (c.in_ok-words_out.ensures.ok, (c.in_ok-words_in.ensures.ok, (c.in_ok-who.ensures.ok, tt))))),
            ),
          ),
        ),
      ),
    )

pub returns-in_err-who-clause-form : goal.returns-in_err-who-clause-form
returns-in_err-who-clause-form c failed x fits is =
    unread_form c.from_residual-in_err-who.result _ c.from_residual-in_err-who.ensures.1 c.in_err-who.ensures.fault failed
    (x.who, fits.who_fits, ap (λ r. column r 9) is)

pub returns-in_err-who-clause-want : goal.returns-in_err-who-clause-want
returns-in_err-who-clause-want c =
    let len : length c.args.row.now ≡ 10 = omega (arith, c.column_count.ensures, c.if-column_count-ne10.false) in
    let key : c.in_ok-key_at.field-0 ≡ c.args.number = omega (arith, c.if-branch-number.false) in
    unread_want c.from_residual-in_err-who.result _ c.from_residual-in_err-who.ensures.1 c.in_err-who.ensures.fault (λ text. (
      tt,
      record {
        kind = c.in_ok-kind.kind;
        batch = c.in_ok-batch.batch;
        sent = c.in_ok-sent.sent;
        from = c.in_ok-from.from;
        to = c.in_ok-to.to;
        sentences = c.in_ok-sentences.sentences;
        words_out = c.in_ok-words_out.words_out;
        words_in = c.in_ok-words_in.words_in;
        who = text.0;
      },
      record {
        kind_fits = search rules;
        batch_fits = search rules;
        sent_fits = search rules;
        from_fits = search rules;
        to_fits = search rules;
        sentences_fits = search rules;
        words_out_fits = search rules;
        words_in_fits = search rules;
        who_fits = text.1;
      },
      same_row c.args.row.now _ len (
        c.in_ok-key_at.ensures.ok ∙ ap (λ n. Int (pos n)) key,
        (
          c.in_ok-kind.ensures.ok,
          (
            c.in_ok-batch.ensures.ok,
            (
              c.in_ok-sent.ensures.ok,
              (
                c.in_ok-from.ensures.ok,
                (c.in_ok-to.ensures.ok, (c.in_ok-sentences.ensures.ok, (c.in_ok-words_out.ensures.ok, (c.in_ok-words_in.ensures.ok, (text.2, tt))))),
              ),
            ),
          ),
        ),
      ),
    ))
