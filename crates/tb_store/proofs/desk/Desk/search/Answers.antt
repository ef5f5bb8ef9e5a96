use Rattle.tb_store.proofs.Walks.{walk_asked, walk_blames_sink, walk_gives, walk_gives_end, walk_refuses_nothing}
use Rattle.tb_store.proofs.desk.Desk.search.Goals as goal

pub returns-clause-answered : goal.returns-clause-answered
returns-clause-answered g c =
    walk_gives g.S.Store c.self.view_is c.search_released-walk.new.conn c.search_released-walk.result c.reported_walk.result c.reported_walk.ensures _ c.search_released-walk.ensures.answered

pub returns-clause-broken : goal.returns-clause-broken
returns-clause-broken g c =
    walk_gives_end g.S.Store c.self.view_is c.search_released-walk.new.conn c.search_released-walk.result c.reported_walk.result c.reported_walk.ensures _ _ (λ s e f tells so found are. tells.found _ _ _ found (so found are)) c.search_released-walk.ensures.broken

pub returns-clause-never_refuses : goal.returns-clause-never_refuses
returns-clause-never_refuses g c = walk_refuses_nothing c.search_released-walk.result c.reported_walk.result c.reported_walk.ensures

pub returns-clause-output : goal.returns-clause-output
returns-clause-output g c bad = c.search_released-walk.ensures.refused (walk_blames_sink c.search_released-walk.result c.reported_walk.result c.reported_walk.ensures bad)

pub returns-clause-question : goal.returns-clause-question
returns-clause-question g c =
    walk_asked g.S.Store c.self.view_is c.search_released-walk.new.conn c.search_released-walk.result c.reported_walk.result c.reported_walk.ensures c.self.invariant.unlimited c.search_released-walk.ensures.read
