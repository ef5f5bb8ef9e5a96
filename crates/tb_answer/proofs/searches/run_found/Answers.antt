use Rattle.tb_answer.proofs.Questioned.{unread}
use Rattle.tb_answer.proofs.searches.run_found.Goals as goal

pub returns-in-Ok-clause-found : goal.returns-in-Ok-clause-found
returns-in-Ok-clause-found g c = rw c.in-Ok.is (c.put_found.result, c.by_search.ensures.status, c.by_search.ensures.written, c.put_found.ensures.reason, c.put_found.ensures.put)

pub returns-in-Err-clause-read_only : goal.returns-in-Err-clause-read_only
returns-in-Err-clause-read_only g c = unread g.S.Store c.args.desk.now
