use Rattle.tb_verify.proofs.machine.is_batch.Goals as goal

pub returns-in-Ok-clause-yes : goal.returns-in-Ok-clause-yes
returns-in-Ok-clause-yes c _ none = none _ c.in-Ok.ensures.record

pub returns-in-Err-clause-no : goal.returns-in-Err-clause-no
returns-in-Err-clause-no c _ = c.in-Err.ensures.none.1
