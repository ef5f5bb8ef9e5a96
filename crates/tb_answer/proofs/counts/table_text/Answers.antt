use Rattle.tb_answer.proofs.counts.table_text.Goals as goal

pub returns-in-Ok-clause-text : goal.returns-in-Ok-clause-text
returns-in-Ok-clause-text c =
    let table = c.in-Ok.ensures.text in
    (table.0, table.1, table.2, c.total.ensures.total)
