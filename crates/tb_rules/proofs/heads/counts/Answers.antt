use Rattle.std.proofs.Common.{◌+◌, ℕ, List, get_or, length, arith, sym, ◌∙◌, ap, length-set}
use Rattle.tb_conllu.specs.Text.{RowText}
use Rattle.tb_rules.specs.Ids.{is_node_after}
use Rattle.tb_rules.proofs.Numbered.{node_within, node_counted, node_passed, count-below, zeros}
use Rattle.tb_rules.proofs.heads.counts.Goals as goal
use Rattle.tb_rules.proofs.heads.counts.Goals.{in-Empty, in_default}

pub loop-row-init : goal.loop-row-init
loop-row-init g c = record {
  room = omega (arith, c.in_ok-nodes.ensures.len, c.in_ok-nodes.nodes.ok.0);
  counted = λ i. ap (λ (xs : List ℕ). get_or xs i 0) (c.in_ok-nodes.ensures.items_if_clones_equal (λ y h. h)) ∙ zeros (c.args.words + 1) i;
}

pub count_one-requires : goal.count_one-requires
count_one-requires g c =
    let same_id = ap (λ (r : RowText). r.id) (sym c.row.view_is) in
    record {
      within = omega (arith, c.loop-row.nodes.ok.0, node_within c.args.rows.now c.loop-row.row-index c.in-Empty.word c.in-Empty.field-1 c.row-item.result c.requires.in_place c.loop-row-test.true c.row-item.is (same_id ∙ c.in-Empty.is));
      fits = omega (arith, c.loop-row.invariant.counted c.in-Empty.word, count-below (is_node_after c.in-Empty.word) c.args.rows.now c.loop-row.row-index);
    }

pub loop-row-preserved : goal.loop-row-preserved
loop-row-preserved g c =
    let rows = c.args.rows.now in
    let i = c.loop-row.row-index in
    let row = c.row-item.result in
    let same_id = ap (λ (r : RowText). r.id) (sym c.row.view_is) in
    elim c.match-row.branch [
      | in-Empty w ↦ record {
        room = rw w.nodes-is (ap length w.count_one.ensures ∙ (length-set c.loop-row.nodes.items w.in-Empty.word _ ∙ c.loop-row.invariant.room));
        counted = λ j. rw w.nodes-is (rw w.count_one.ensures (node_counted rows i w.in-Empty.word w.in-Empty.field-1 row c.loop-row.nodes.items c.loop-row-test.true c.row-item.is (same_id ∙ w.in-Empty.is)
            (omega (arith, c.loop-row.invariant.room, node_within rows i w.in-Empty.word w.in-Empty.field-1 row c.requires.in_place c.loop-row-test.true c.row-item.is (same_id ∙ w.in-Empty.is))) c.loop-row.invariant.counted j));
      }
      | in_default w ↦ record {
        room = rw w.nodes-is c.loop-row.invariant.room;
        counted = λ j. rw w.nodes-is (node_passed rows i row c.loop-row.nodes.items c.loop-row-test.true c.row-item.is (λ n k e. w.in_default.not-Empty n k (sym same_id ∙ e)) c.loop-row.invariant.counted j);
      }
    ]
