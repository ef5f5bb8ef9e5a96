use Rattle.tb_store.proofs.Walks.{walk_asked, walk_blames_sink, walk_gives, walk_refuses_nothing}
use Rattle.tb_store.proofs.desk.Desk.count.Goals as goal

pub returns-clause-answered : goal.returns-clause-answered
returns-clause-answered g c =
    walk_gives g.S.Store c.self.view_is c.count_released-walk.new.conn c.count_released-walk.result c.reported_walk.result c.reported_walk.ensures _ c.count_released-walk.ensures.answered

pub returns-clause-never_refuses : goal.returns-clause-never_refuses
returns-clause-never_refuses g c = walk_refuses_nothing c.count_released-walk.result c.reported_walk.result c.reported_walk.ensures

pub returns-clause-output : goal.returns-clause-output
returns-clause-output g c bad = c.count_released-walk.ensures.never_refuses (walk_blames_sink c.count_released-walk.result c.reported_walk.result c.reported_walk.ensures bad)

pub returns-clause-question : goal.returns-clause-question
returns-clause-question g c =
    walk_asked g.S.Store c.self.view_is c.count_released-walk.new.conn c.count_released-walk.result c.reported_walk.result c.reported_walk.ensures c.self.invariant.unlimited c.count_released-walk.ensures.read
