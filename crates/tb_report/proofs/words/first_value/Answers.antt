use Rattle.std.proofs.Common.{◌≤◌, ◌∷◌, [], ◌∙◌, ap, arith, filter, length, List, sym, take_all, ℕ}
use Rattle.tb_conllu.specs.Words.{is_word}
use Rattle.tb_query.specs.Meaning.{value_of}
use Rattle.tb_report.proofs.WordLists.{first_word, no_word}
use Rattle.tb_report.proofs.words.first_value.Goals as goal

pub returns-then-is_word_row : goal.returns-then-is_word_row
returns-then-is_word_row g c =
    let word = sym c.is_word_row.ensures ∙ c.if-is_word_row.true in
    first_word (value_of c.args.column) c.args.rows.now c.loop-row.row-index c.row-item.result c.loop-row-test.true c.row-item.is word c.loop-row.invariant
    ∙ ap (λ (text : List ℕ). text ∷ []) (sym c.value_of.ensures)

pub loop-row-preserved : goal.loop-row-preserved
loop-row-preserved g c =
    let l = c.loop-row in
    no_word c.args.rows.now l.row-index c.row-item.result c.loop-row-test.true c.row-item.is (sym c.is_word_row.ensures ∙ c.if-is_word_row.false) ∙ l.invariant

pub returns : goal.returns
returns g c =
    let rows = c.args.rows.now in
    let end : length rows ≤ c.loop-row.row-index = omega (arith, c.loop-row-test.false) in
    ap (filter is_word) (sym (take_all c.loop-row.row-index rows end)) ∙ c.loop-row.invariant
