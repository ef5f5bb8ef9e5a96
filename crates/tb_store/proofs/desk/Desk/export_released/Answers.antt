use Rattle.tb_store.proofs.Walks.{walk_asked, walk_blames_sink, walk_gives_end, walk_put, walk_refuses_nothing}
use Rattle.tb_store.proofs.desk.Desk.export_released.Goals as goal

pub returns-clause-put : goal.returns-clause-put
returns-clause-put g c =
    walk_put g.S.Store c.self.view_is c.export_released.new.conn c.export_released.result c.reported_walk.result c.reported_walk.ensures _ c.export_released.ensures.put

pub returns-clause-part : goal.returns-clause-part
returns-clause-part g c =
    walk_gives_end g.S.Store c.self.view_is c.export_released.new.conn c.export_released.result c.reported_walk.result c.reported_walk.ensures _ _ (λ s e f tells so. tells.left _ _ _ so) c.export_released.ensures.part

pub returns-clause-never_refuses : goal.returns-clause-never_refuses
returns-clause-never_refuses g c = walk_refuses_nothing c.export_released.result c.reported_walk.result c.reported_walk.ensures

pub returns-clause-output : goal.returns-clause-output
returns-clause-output g c bad = c.export_released.ensures.refused (walk_blames_sink c.export_released.result c.reported_walk.result c.reported_walk.ensures bad)

pub returns-clause-question : goal.returns-clause-question
returns-clause-question g c =
    walk_asked g.S.Store c.self.view_is c.export_released.new.conn c.export_released.result c.reported_walk.result c.reported_walk.ensures c.self.invariant.unlimited c.export_released.ensures.read
