use Rattle.std.proofs.Common.{◌≡◌, ◌≤◌, ◌+◌, ◌⊎◌, ◌↔◌, [], ◌∷◌, length-append, length, take, filter, sym, ap, ◌∙◌, subst, arith, take_all}
use Rattle.tb_conllu.specs.Words.{is_word}
use Rattle.tb_match.specs.Facts.{Holds}
use Rattle.tb_query.specs.PreparedExprs.{asked}
use Rattle.tb_query.specs.Meaning.{HoldsAtWord}
use Rattle.tb_query.proofs.TableLemmas.{few_words, words_of_rows, next_word, no_word, row_step, words_before}
use Rattle.tb_query.proofs.filling.fill_row.Goals as goal

pub overflow_add-word : goal.overflow_add-word
overflow_add-word g c = omega (arith, words_of_rows c.args.rows.now c.loop-row.row-index)

pub fill_cell-requires-clause-last : goal.fill_cell-requires-clause-last
fill_cell-requires-clause-last g c =
    let l = c.loop-row in
    let rows = c.args.rows.now in
    let next = next_word rows l.row-index c.row-item.result c.loop-row-test.true c.row-item.is (sym c.is_word_row.ensures ∙ c.if-not-is_word_row.false) in
    let last : l.word + 1 ≤ l.truth.words =
    omega (arith, few_words rows (l.row-index + 1), ap length next, length-append (words_before rows l.row-index) (c.row-item.result ∷ [])) in
    last

pub loop-row-preserved-then-not-is_word_row : goal.loop-row-preserved-then-not-is_word_row
loop-row-preserved-then-not-is_word_row g c =
    let l = c.loop-row in
    let next = no_word c.args.rows.now l.row-index c.row-item.result c.loop-row-test.true c.row-item.is (sym c.is_word_row.ensures ∙ c.if-not-is_word_row.true) in
    record {
      word = l.invariant.word ∙ ap length (sym next);
      same = l.invariant.same;
      words = l.invariant.words;
      exprs = l.invariant.exprs;
      held = λ e w. subst (λ ws. Holds l.truth e w ↔ (Holds c.args.truth.now e w ⊎ ((e ≡ c.args.expr) × HoldsAtWord (asked c.args.prepared_expr.now) ws w))) (sym next) (l.invariant.held e w);
    }

pub loop-row-preserved : goal.loop-row-preserved
loop-row-preserved g c =
    let l = c.loop-row in
    let rows = c.args.rows.now in
    let r = c.row-item.result in
    let ws = words_before rows l.row-index in
    let next = next_word rows l.row-index r c.loop-row-test.true c.row-item.is (sym c.is_word_row.ensures ∙ c.if-not-is_word_row.false) in
    record {
      word = omega (arith, l.invariant.word, ap length next, length-append ws (r ∷ []));
      same = c.fill_cell.ensures.unchanged ∙ l.invariant.same;
      words = c.fill_cell.ensures.words ∙ l.invariant.words;
      exprs = c.fill_cell.ensures.exprs ∙ l.invariant.exprs;
      held = λ e w. row_step (asked l.prepared_expr) (asked c.args.prepared_expr.now) _ ws r w l.word (e ≡ c.args.expr) (Holds c.args.truth.now e w) (Holds l.truth e w) (Holds c.fill_cell.new.truth e w)
          l.invariant.same next l.invariant.word (c.fill_cell.ensures.held e w) (l.invariant.held e w);
    }

pub returns-clause-held : goal.returns-clause-held
returns-clause-held g c = λ e w.
    let l = c.loop-row in
    let all : take l.row-index c.args.rows.now ≡ c.args.rows.now = take_all l.row-index c.args.rows.now c.loop-row-test.false in
    subst (λ rows. Holds l.truth e w ↔ (Holds c.args.truth.now e w ⊎ ((e ≡ c.args.expr) × HoldsAtWord (asked c.args.prepared_expr.now) (filter is_word rows) w))) all (l.invariant.held e w)
