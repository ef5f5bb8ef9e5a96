use Rattle.tb_rules.specs.Restored.{text_of_rows}
use Rattle.tb_rules.proofs.Compare.{all_came, not_came}
use Rattle.tb_rules.proofs.matching.spell.Goals as goal

pub returns-in-None : goal.returns-in-None
returns-in-None g c =
    let first = c.from_start.result in
    not_came first.rest.now c.args.text.now first.begun first.gap (text_of_rows c.args.rows.now) c.from_start.ensures.rest c.from_start.ensures.begun c.from_start.ensures.gap c.in-None.ensures

pub returns-in-Some : goal.returns-in-Some
returns-in-Some g c =
    let first = c.from_start.result in
    let now = c.in-Some.now in
    all_came first.rest.now now.rest.now c.args.text.now first.begun first.gap now.begun now.gap c.is_empty.result (text_of_rows c.args.rows.now) c.from_start.ensures.rest c.from_start.ensures.begun c.from_start.ensures.gap c.in-Some.ensures c.is_empty.ensures
