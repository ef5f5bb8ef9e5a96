use Rattle.std.proofs.Common.{List, ap, arith, refl, subst, sym, ◌∙◌, ℕ}
use Rattle.tb_conllu.specs.Text.{RowText}
use Rattle.tb_words.proofs.NodeCounts.{HasNodes, all_noted, node_noted, none_noted, span_noted, word_noted}
use Rattle.tb_words.proofs.pairs.nodes_after.Goals as goal
use Rattle.tb_words.proofs.pairs.nodes_after.Goals.{in-Empty, in-Span, in-Word+in_ok-push-in-Word}

pub loop-row-init : goal.loop-row-init
loop-row-init c = (
  λ few passes. subst (λ (xs : List ℕ). HasNodes c.args.rows.now 0 xs 0) (sym c.new-counts.ensures.items) (none_noted c.args.rows.now),
  omega arith,
)

pub loop-row-preserved : goal.loop-row-preserved
loop-row-preserved c =
    let rows = c.args.rows.now in
    let row = c.row-item.result in
    let same = ap (λ (r : RowText). r.id) (sym c.row.view_is) in
    elim c.match-row.branch [
      | in-Word+in_ok-push-in-Word w ↦ (
        λ few passes. word_noted rows c.loop-row.row-index _ c.loop-row.counts.items c.match-row.counts.items c.loop-row.count c.match-row.count row
            c.loop-row-test.true c.row-item.is passes (c.loop-row.invariant.0 few passes) (same ∙ w.in-Word.is)
            (rw w.counts-is w.in_ok-push-in-Word.ensures.items) w.count-is,
        omega (arith, w.count-is),
      )
      | in-Empty w ↦ (
        λ few passes. node_noted rows c.loop-row.row-index _ _ c.loop-row.counts.items c.match-row.counts.items c.loop-row.count c.match-row.count row
            c.loop-row-test.true c.row-item.is passes (c.loop-row.invariant.0 few passes) (same ∙ w.in-Empty.is)
            (rw w.counts-is refl)
            (omega (arith, few, w.count-is, w.saturating_add-count.ensures, c.loop-row.invariant.1, c.loop-row-test.true)),
        omega (arith, w.count-is, w.saturating_add-count.ensures, c.loop-row.invariant.1),
      )
      | in-Span w ↦ (
        λ few passes. span_noted rows c.loop-row.row-index _ _ c.loop-row.counts.items c.match-row.counts.items c.loop-row.count c.match-row.count row
            c.loop-row-test.true c.row-item.is passes (c.loop-row.invariant.0 few passes) (same ∙ w.in-Span.is) (rw w.counts-is refl)
            w.count-is,
        omega (arith, w.count-is, c.loop-row.invariant.1),
      )
    ]

pub returns : goal.returns
returns c = λ few passes.
    all_noted c.args.rows.now c.loop-row.row-index c.loop-row.counts.items _ c.loop-row.count (omega (arith, c.loop-row-test.false))
    (c.loop-row.invariant.0 few passes) c.in_ok-push.ensures.items
