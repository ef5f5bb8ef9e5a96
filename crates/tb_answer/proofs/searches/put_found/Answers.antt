use Rattle.tb_answer.proofs.Questioned.{only_asked}
use Rattle.tb_answer.proofs.searches.put_found.Goals as goal

pub returns-in-Ok-clause-put : goal.returns-in-Ok-clause-put
returns-in-Ok-clause-put g c clean s stands =
    let it = c.in-Ok.ensures.answered clean s stands in
    (it.0, it.1, it.3, it.2)

pub returns-in-Err-clause-put : goal.returns-in-Err-clause-put
returns-in-Err-clause-put g c clean s stands = c.ending_of.ensures.streamed s c.args.query.now c.args.search.strategy c.args.search.context _ _ (c.in-Err.ensures.broken clean s stands)

pub returns-in-Ok-clause-read_only : goal.returns-in-Ok-clause-read_only
returns-in-Ok-clause-read_only g c = only_asked c.in-Ok.ensures.question

pub returns-in-Err-clause-read_only : goal.returns-in-Err-clause-read_only
returns-in-Err-clause-read_only g c = only_asked c.in-Err.ensures.question
