use Rattle.std.proofs.Common.{IfSome, ap, arith, subst, sym, ◌≡◌, ◌∙◌}
use Rattle.std.proofs.lemmas.Bool.{true≢false}
use Rattle.tb_conllu.specs.Text.{RowText}
use Rattle.tb_conllu.specs.declared.id.LineId.{LineId}
use Rattle.tb_words.proofs.Orders.{first_misplaced, node_more, row_here, span_more, word_more}
use Rattle.tb_words.specs.Keyed.{next_id, wanted_at}
use Rattle.tb_words.proofs.rules.misplaced.Goals as goal
use Rattle.tb_words.proofs.rules.misplaced.Goals.{in-Empty, in-Span, in-Word}

pub returns-then-not-is_same_id : goal.returns-then-not-is_same_id
returns-then-not-is_same_id c =
    λ few.
    let rows = c.args.rows.now in
    let at = c.loop-at.at in
    let row = c.index-rows-at.result in
    let same = ap (λ (r : RowText). r.id) (sym c.row.view_is) in
    let wanted : c.next_id-wanted.result ≡ next_id c.loop-at.words c.loop-at.nodes row.id =
    c.next_id-wanted.ensures ∙ ap (λ (i : LineId). next_id c.loop-at.words c.loop-at.nodes i) (sym same) in
    let h = first_misplaced rows at c.loop-at.words c.loop-at.nodes row c.loop-at-test.true c.index-rows-at.is
    (omega (arith, few, c.loop-at.invariant.1, c.loop-at-test.true)) (omega (arith, few, c.loop-at.invariant.2, c.loop-at-test.true))
    (c.loop-at.invariant.0 few)
    (λ next. true≢false (sym (c.is_same_id.ensures.1 (sym same ∙ (next ∙ sym wanted))) ∙ c.if-not-is_same_id.true)) in (
      h.0,
      subst (λ o. IfSome o (λ (r : RowText). c.next_id-wanted.result ≡ wanted_at rows at r))
          (sym (row_here rows at row c.loop-at-test.true c.index-rows-at.is)) (wanted ∙ h.1),
    )

pub loop-at-preserved : goal.loop-at-preserved
loop-at-preserved c =
    let rows = c.args.rows.now in
    let row = c.index-rows-at.result in
    let same = ap (λ (r : RowText). r.id) (sym c.row.view_is) in
    let is = same ∙ c.is_same_id.ensures.0 c.if-not-is_same_id.false in
    let next = is ∙ (c.next_id-wanted.ensures ∙ ap (λ (i : LineId). next_id c.loop-at.words c.loop-at.nodes i) (sym same)) in
    elim c.match-wanted.branch [
      | in-Word w ↦ word_more rows c.loop-at.at c.loop-at.words c.loop-at.nodes _ c.match-wanted.words c.match-wanted.nodes row
          c.loop-at-test.true c.index-rows-at.is c.loop-at.invariant next (is ∙ w.in-Word.is) w.words-is w.nodes-is
      | in-Span w ↦ span_more rows c.loop-at.at c.loop-at.words c.loop-at.nodes _ _ c.match-wanted.words c.match-wanted.nodes row
          c.loop-at-test.true c.index-rows-at.is c.loop-at.invariant next (is ∙ w.in-Span.is) w.words-is w.nodes-is
      | in-Empty w ↦ node_more rows c.loop-at.at c.loop-at.words c.loop-at.nodes _ _ c.match-wanted.words c.match-wanted.nodes row
          c.loop-at-test.true c.index-rows-at.is c.loop-at.invariant next (is ∙ w.in-Empty.is) w.words-is w.nodes-is
    ]
