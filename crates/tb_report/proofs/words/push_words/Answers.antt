use Rattle.std.proofs.Common.{◌++◌, ◌∙◌, ap, arith, length, sym}
use Rattle.tb_query.specs.Meaning.{value_of}
use Rattle.tb_report.specs.Keywords.{joined}
use Rattle.tb_report.proofs.WordLists.{first_words, joined_word, no_word, one_more_word, texts_of, next_text}
use Rattle.tb_report.proofs.words.push_words.Goals as goal

pub returns-then-done-words : goal.returns-then-done-words
returns-then-done-words g c =
    let l = c.loop-row in
    l.invariant.text ∙ ap joined (first_words (value_of c.args.column) c.args.rows.now l.row-index c.args.words (sym c.if-done-words.true ∙ l.invariant.count))

pub loop-row-preserved-then-not-is_word_row : goal.loop-row-preserved-then-not-is_word_row
loop-row-preserved-then-not-is_word_row g c =
    let l = c.loop-row in
    let same = no_word c.args.rows.now l.row-index c.row-item.result c.loop-row-test.true c.row-item.is (sym c.is_word_row.ensures ∙ c.if-not-is_word_row.true) in
    record {
      count = l.invariant.count ∙ ap length (sym same);
      few = l.invariant.few;
      text = l.invariant.text ∙ ap (λ words. joined (texts_of (value_of c.args.column) words)) (sym same);
    }

pub loop-row-preserved : goal.loop-row-preserved
loop-row-preserved g c =
    let l = c.loop-row in
    let word = sym c.is_word_row.ensures ∙ c.if-not-is_word_row.false in
    record {
      count = one_more_word c.args.rows.now l.row-index l.done c.row-item.result c.loop-row-test.true c.row-item.is word l.invariant.count;
      few = omega (arith, l.invariant.few, c.if-done-words.false);
      text = c.in_ok-push_next.ensures
          ∙ (λ i. l.invariant.text i ++ next_text l.done (c.value_of.ensures i))
          ∙ sym (joined_word (value_of c.args.column) c.args.rows.now l.row-index l.done c.row-item.result c.loop-row-test.true c.row-item.is word l.invariant.count);
    }
