use Rattle.tb_answer.proofs.Questioned.{unread}
use Rattle.tb_answer.proofs.counts.counted_if.Goals as goal

pub returns-in-Err-clause-read_only : goal.returns-in-Err-clause-read_only
returns-in-Err-clause-read_only g c = unread g.S.Store c.args.desk.now
