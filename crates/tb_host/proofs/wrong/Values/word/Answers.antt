use Rattle.tb_host.proofs.wrong.Values.word.Goals as goal

pub returns-clause-word : goal.returns-clause-word
returns-clause-word c = (c.in_ok-first.first.now, c.in_ok-first.ensures.cases.0, c.as_str.ensures.value)
