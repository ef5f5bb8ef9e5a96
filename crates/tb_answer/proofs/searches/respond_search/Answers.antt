use Rattle.std.proofs.Common.{arith, subst, sym}
use Rattle.sqlite.specs.Held.{state}
use Rattle.sqlite.specs.State.{HasCleanDisk}
use Rattle.tb_answer.specs.Commanded.{HasFailed}
use Rattle.tb_answer.specs.Found.{IsReportedOfQuery, search_by}
use Rattle.tb_answer.proofs.Failing.{at_err, both_err, both_ok, if_err, if_ok, on_ok}
use Rattle.tb_answer.proofs.Handed.{only_then}
use Rattle.tb_answer.proofs.SearchTexts.{search_sent}
use Rattle.tb_answer.proofs.searches.respond_search.Goals as goal

pub returns-clause-written : goal.returns-clause-written
returns-clause-written g c clean s stands =
    let mid : HasCleanDisk (state g.S.Store c.accepted-query.new.desk.conn) = omega (arith, clean, c.respond_found.ensures.commits_nothing.clean) in
    search_sent _ (HasFailed g.S.Store c.args.desk.now c.respond_found.new.desk) c.args.desk.now.limits s (search_by c.args.search) (g.W.Sink.held c.args.out.now) (g.W.Sink.held c.respond_found.new.out) (g.W.Sink.IsRefusal c.respond_found.new.out) c.accepted-query.result c.respond_found.result
    (if_ok c.accepted-query.result (c.accepted-query.ensures.read.answered mid) (λ q is. is s stands))
    (both_err c.accepted-query.result (at_err _ _ c.accepted-query.result (c.accepted-query.ensures.read.reported mid) s stands) c.respond_found.ensures.refused (λ r why it.
    subst (λ d. IsReportedOfQuery (HasFailed g.S.Store c.args.desk.now d) c.args.desk.now.limits s c.args.search.query.now c.args.search.strategy r) (sym it.0) why))
    (both_ok c.accepted-query.result c.respond_found.ensures.found (on_ok _ c.accepted-query.result (c.accepted-query.ensures.stays mid)) (λ q it stays. (it.0, it.1, it.2, it.3 clean s (stays s stands))))
    c.respond_found.ensures.refused

pub returns-clause-read_only : goal.returns-clause-read_only
returns-clause-read_only g c =
    only_then g.S.Store c.args.desk.now c.accepted-query.new.desk c.respond_found.new.desk c.accepted-query.result (if_err c.accepted-query.result c.respond_found.ensures.refused (λ r it. it.0))
    c.accepted-query.ensures.stays c.accepted-query.ensures.read.read_only c.accepted-query.ensures.commits_nothing c.respond_found.ensures.read_only c.respond_found.ensures.commits_nothing
