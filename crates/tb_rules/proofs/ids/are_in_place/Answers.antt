use Rattle.std.proofs.Common.{◌≡◌, true, take, sym, ap, ◌∙◌, arith}
use Rattle.std.specs.List.{count_by}
use Rattle.tb_conllu.specs.Text.{RowText}
use Rattle.tb_rules.specs.Ids.{is_next_id, is_node_after}
use Rattle.tb_rules.proofs.Counts.{word_comes, span_comes, node_comes}
use Rattle.tb_rules.proofs.ids.are_in_place.Goals as goal
use Rattle.tb_rules.proofs.ids.are_in_place.Goals.{in-Word, in-Span, in-Empty}

pub loop-row-preserved : goal.loop-row-preserved
loop-row-preserved g c =
    let rows = c.args.rows.now in
    let row = c.row-item.result in
    let i = c.loop-row.row-index in
    let came = c.loop-row.invariant.came in
    let same_id = ap (λ (r : RowText). r.id) (sym c.row.view_is) in
    let next : is_next_id c.loop-row.words (λ w. count_by (is_node_after w) (take i rows)) row.id ≡ true =
    ap (is_next_id c.loop-row.words (λ w. count_by (is_node_after w) (take i rows))) same_id ∙ (sym (c.is_next.ensures (λ w. count_by (is_node_after w) (take i rows)) (sym came.nodes_are)) ∙ c.if-not-is_next.false) in
    elim c.match-row.branch [
      | in-Word w ↦ record {
        came = (rw w.words-is (rw w.nodes-is (word_comes rows i c.loop-row.words c.loop-row.nodes w.in-Word.field-0 row c.loop-row-test.true c.row-item.is came next (same_id ∙ w.in-Word.is))));
        few_words = omega arith;
        few_nodes = omega arith;
      }
      | in-Span w ↦ record {
        came = (rw w.words-is (rw w.nodes-is (span_comes rows i c.loop-row.words c.loop-row.nodes w.in-Span.field-0 w.in-Span.field-1 row c.loop-row-test.true c.row-item.is came next (same_id ∙ w.in-Span.is))));
        few_words = omega arith;
        few_nodes = omega arith;
      }
      | in-Empty w ↦ record {
        came = (rw w.words-is (rw w.nodes-is (node_comes rows i c.loop-row.words c.loop-row.nodes w.in-Empty.field-0 w.in-Empty.field-1 row c.loop-row-test.true c.row-item.is came next (same_id ∙ w.in-Empty.is))));
        few_words = omega arith;
        few_nodes = omega arith;
      }
    ]
