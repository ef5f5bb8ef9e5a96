use Rattle.std.proofs.Common.{◌∙◌, ap, arith, length, subst, sym}
use Rattle.std.specs.Io.KnownBytes.{Appends}
use Rattle.tb_conllu.specs.Text.{RowText}
use Rattle.tb_report.specs.Keywords.{joined}
use Rattle.tb_report.proofs.WordLists.{first_words, joined_put, no_word, one_more_word, texts_of}
use Rattle.tb_report.proofs.words.put_words.Goals as goal

pub returns-then-done-words-clause-put : goal.returns-then-done-words-clause-put
returns-then-done-words-clause-put g c =
    let l = c.loop-row in
    subst (λ texts. Appends (g.S.Sink.held c.args.out.now) (g.S.Sink.held l.out) (joined texts))
    (first_words (λ (row : RowText). row.form) c.args.rows.now l.row-index c.args.words (sym c.if-done-words.true ∙ l.invariant.count)) l.invariant.put

pub loop-row-preserved-then-not-is_word_row : goal.loop-row-preserved-then-not-is_word_row
loop-row-preserved-then-not-is_word_row g c =
    let l = c.loop-row in
    let same = no_word c.args.rows.now l.row-index c.row-item.result c.loop-row-test.true c.row-item.is (sym c.is_word_row.ensures ∙ c.if-not-is_word_row.true) in
    record {
      count = l.invariant.count ∙ ap length (sym same);
      few = l.invariant.few;
      put = subst (λ words. Appends (g.S.Sink.held c.args.out.now) (g.S.Sink.held l.out) (joined (texts_of (λ (row : RowText). row.form) words))) (sym same) l.invariant.put;
    }

pub loop-row-preserved : goal.loop-row-preserved
loop-row-preserved g c =
    let l = c.loop-row in
    let word = sym c.is_word_row.ensures ∙ c.if-not-is_word_row.false in
    let form = c.text.ensures ∙ ap (λ (x : RowText). x.form) c.row.view_is in
    record {
      count = one_more_word c.args.rows.now l.row-index l.done c.row-item.result c.loop-row-test.true c.row-item.is word l.invariant.count;
      few = omega (arith, l.invariant.few, c.if-done-words.false);
      put = joined_put (λ (row : RowText). row.form) c.args.rows.now l.row-index l.done c.row-item.result c.text.result.now (g.S.Sink.held c.args.out.now) (g.S.Sink.held l.out) (g.S.Sink.held c.put_next.new.out)
          c.loop-row-test.true c.row-item.is word l.invariant.count form l.invariant.put c.in_ok-put_next.ensures.put;
    }
