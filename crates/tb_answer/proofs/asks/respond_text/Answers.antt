use Rattle.std.proofs.Common.{inr}
use Rattle.tb_answer.proofs.asks.respond_text.Goals as goal

pub returns-in-Search-Ok-clause-written : goal.returns-in-Search-Ok-clause-written
returns-in-Search-Ok-clause-written g c clean s stands =
    let text = rw c.in-Search-Ok.is-1 at c.from_utf8.ensures.cases in
    rw c.in-Search-Ok.is-0 (inr (text.1, rw text.0 at c.respond_search.ensures.written clean s stands))

pub returns-in-Count-Ok-clause-written : goal.returns-in-Count-Ok-clause-written
returns-in-Count-Ok-clause-written g c clean s stands =
    let text = rw c.in-Count-Ok.is-1 at c.from_utf8.ensures.cases in
    rw c.in-Count-Ok.is-0 (inr (text.1, rw text.0 at c.respond_count.ensures.written clean s stands))
