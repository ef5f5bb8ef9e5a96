use Rattle.tb_reads.proofs.Failing.{if_err}
use Rattle.tb_reads.proofs.Shown.{if_ok}
use Rattle.tb_search.proofs.searcher.sentence_in.Goals as goal

pub returns-clause-read : goal.returns-clause-read
returns-clause-read c = if_ok c.found_in.result c.found_in.ensures.sentence (λ b same x is. let found = c.in_ok-found.ensures x is in cc)

pub returns-clause-fault : goal.returns-clause-fault
returns-clause-fault c = if_err c.found_in.result c.found_in.ensures.none (λ e lacks x is. let found = c.in_ok-found.ensures x is in let none = lacks.1 in absurd cc)
