use Rattle.std.proofs.Common.{filter}
use Rattle.std.proofs.lemmas.Result.{on_ok_weaker}
use Rattle.tb_conllu.specs.Text.{RowText}
use Rattle.tb_conllu.specs.Words.{is_word}
use Rattle.tb_report.proofs.HitTexts.{texts_put}
use Rattle.tb_report.proofs.keyword.put_forms.Goals as goal

pub returns-clause-put : goal.returns-clause-put
returns-clause-put g c =
    let held = g.S.Sink.held in
    let words = filter is_word c.args.rows.now in
    let left = filter is_word c.after_words-left.result.now in
    let matched = filter is_word c.after_words-matched.result.now in
    let right = filter is_word c.after_words-right.result.now in
    let put = texts_put (λ (row : RowText). row.form) words left matched right c.args.context c.args.hit.0 c.args.hit.1 c.saturating_sub-first.result
    (held c.args.out.now) (held c.put_words_column.new.out) (held c.put_words_column-2.new.out) (held c.put_words.new.out) (held c.put.new.self)
    c.requires c.saturating_sub-first.ensures c.after_words-left.ensures c.after_words-matched.ensures c.after_words-right.ensures
    c.in_ok-put_words_column.ensures.put c.in_ok-put_words_column-2.ensures.put c.in_ok-put_words.ensures.put in
    on_ok_weaker c.put.result (λ taken forms same. rw same (put taken)) c.put.ensures.taken
