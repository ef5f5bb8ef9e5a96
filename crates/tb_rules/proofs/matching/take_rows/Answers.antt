use Rattle.std.proofs.Common.{max, refl, sym, ap, ◌∙◌, ◌+◌, drop}
use Rattle.std.specs.List.{flat_map}
use Rattle.tb_conllu.specs.Text.{RowText}
use Rattle.tb_rules.specs.Leading.{end_of_id}
use Rattle.tb_rules.specs.Restored.{token_text, text_of_rows}
use Rattle.tb_rules.proofs.Folds.{text_turn}
use Rattle.tb_rules.proofs.Covers.{end_more}
use Rattle.tb_rules.proofs.Compare.{awaits_less}
use Rattle.tb_rules.proofs.matching.take_rows.Goals as goal

pub loop-row-preserved : goal.loop-row-preserved
loop-row-preserved g c =
    let rows = c.args.rows.now in
    let i = c.loop-row.row-index in
    let row = c.row-item.result in
    let first = c.args.expected in
    let now = c.loop-row.now in
    let after = c.in-Some.after in
    record {
      end = c.max-end.ensures ∙ (ap (max c.loop-row.end) (c.end_of.ensures ∙ ap (λ (r : RowText). end_of_id r.id) c.row.view_is) ∙ (ap (λ x. max x (end_of_id row.id)) c.loop-row.invariant.end ∙ sym (end_more rows i row.id row c.loop-row-test.true c.row-item.is refl)));
      awaits = awaits_less first.rest.now now.rest.now after.rest.now first.begun first.gap now.begun now.gap after.begun after.gap (text_of_rows rows) (flat_map (token_text rows) (drop i rows)) (token_text rows row) (flat_map (token_text rows) (drop (i + 1) rows)) (text_turn (token_text rows) rows i row c.loop-row-test.true c.row-item.is) c.loop-row.invariant.awaits c.in-Some.ensures;
    }
