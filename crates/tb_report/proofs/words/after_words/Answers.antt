use Rattle.std.proofs.Common.{sym, ◌∙◌}
use Rattle.tb_report.proofs.WordLists.{passed_word}
use Rattle.tb_report.proofs.words.after_words.Goals as goal

pub loop-left-preserved-then-is_word_row : goal.loop-left-preserved-then-is_word_row
loop-left-preserved-then-is_word_row g c =
    passed_word c.loop-left.left c.args.words c.args.rows.now c.loop-left.rest.now c.in-Some.row.now c.in-Some.more.now c.loop-left-test.true c.in-Some.ensures.cases.0
    (sym c.is_word_row.ensures ∙ c.if-is_word_row.true) c.loop-left.invariant
