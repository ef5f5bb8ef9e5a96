use Rattle.std.proofs.Common.{max, arith, refl, ap, sym, ◌∙◌}
use Rattle.tb_conllu.specs.Text.{RowText}
use Rattle.tb_rules.specs.Leading.{ascends, number_of_id, start_of_id}
use Rattle.tb_rules.proofs.Covers.{row_leads, all_led}
use Rattle.tb_rules.proofs.covering.ranges_lead.Goals as goal

pub loop-row-preserved : goal.loop-row-preserved
loop-row-preserved g c =
    let rows = c.args.rows.now in
    let row = c.row-item.result in
    let same_id = ap (λ (r : RowText). r.id) c.row.view_is in
    let fine = ap (ascends c.loop-row.word c.loop-row.start) (sym same_id) ∙ (sym c.may_follow.ensures ∙ c.if-not-may_follow.false) in
    rw (c.max-word.ensures ∙ ap (max c.loop-row.word) (c.word_number.ensures ∙ ap number_of_id same_id))
    (rw (c.max-start.ensures ∙ ap (max c.loop-row.start) (c.first_number.ensures ∙ ap start_of_id same_id))
    (row_leads rows c.loop-row.row-index c.loop-row.word c.loop-row.start row.id row c.loop-row-test.true c.row-item.is refl fine c.loop-row.invariant))

pub returns : goal.returns
returns g c = λ _. all_led c.args.rows.now c.loop-row.row-index c.loop-row.word c.loop-row.start (omega arith) c.loop-row.invariant
