use Rattle.std.proofs.Common.{◌+◌, max, sym, ap, ◌∙◌, arith}
use Rattle.tb_conllu.specs.Text.{RowText}
use Rattle.tb_conllu.specs.Words.{is_word}
use Rattle.tb_rules.specs.Leading.{end_of_id}
use Rattle.tb_rules.proofs.Counts.{row_passes, row_fails, counted, not_counted}
use Rattle.tb_rules.proofs.spans.span_fault.Goals as goal
use Rattle.tb_rules.proofs.spans.span_fault.Goals.{then-is_word_row, else-is_word_row}

pub returns-then-not-is_fine : goal.returns-then-not-is_fine
returns-then-not-is_fine g c =
    row_fails c.args.words c.args.rows.now c.loop-i.i c.loop-i.before c.loop-i.end c.index-rows-i.result c.loop-i-test.true c.index-rows-i.is c.loop-i.invariant.passed (sym c.is_fine.ensures ∙ c.if-not-is_fine.true)

pub loop-i-preserved : goal.loop-i-preserved
loop-i-preserved g c =
    let rows = c.args.rows.now in
    let row = c.index-rows-i.result in
    let fine = sym c.is_fine.ensures ∙ c.if-not-is_fine.false in
    let last = c.max-end.ensures ∙ ap (max c.loop-i.end) (c.end_of.ensures ∙ ap (λ (r : RowText). end_of_id r.id) c.row.view_is) in
    elim c.if-is_word_row.branch [
      | then-is_word_row w ↦ record {
        passed = row_passes c.args.words rows c.loop-i.i c.loop-i.before c.loop-i.end c.if-is_word_row.before c.max-end.result row c.loop-i-test.true c.index-rows-i.is c.loop-i.invariant.passed fine
            (w.before-is ∙ (ap (λ k. k + 1) c.loop-i.invariant.passed.words_are ∙ sym (counted is_word rows c.loop-i.i row c.loop-i-test.true c.index-rows-i.is (sym c.is_word_row.ensures ∙ w.if-is_word_row.true)))) last;
        few = omega arith;
      }
      | else-is_word_row w ↦ record {
        passed = row_passes c.args.words rows c.loop-i.i c.loop-i.before c.loop-i.end c.if-is_word_row.before c.max-end.result row c.loop-i-test.true c.index-rows-i.is c.loop-i.invariant.passed fine
            (w.before-is ∙ (c.loop-i.invariant.passed.words_are ∙ sym (not_counted is_word rows c.loop-i.i row c.loop-i-test.true c.index-rows-i.is (sym c.is_word_row.ensures ∙ w.if-is_word_row.false)))) last;
        few = omega arith;
      }
    ]
