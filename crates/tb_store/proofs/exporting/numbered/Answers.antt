use Rattle.tb_store.proofs.Walks.{walk_blames, walk_blames_sink, walk_breaks, walk_does, walk_knows, walk_reads, walk_refuses_nothing}
use Rattle.tb_store.proofs.exporting.numbered.Goals as goal

pub returns-clause-put : goal.returns-clause-put
returns-clause-put g c = walk_does g.S.Store c.args.conn.now c.export_numbered.new.conn c.export_numbered.result c.reported_walk.result _ c.reported_walk.ensures c.export_numbered.ensures.put

pub returns-clause-part : goal.returns-clause-part
returns-clause-part g c = walk_breaks g.S.Store c.args.conn.now c.export_numbered.new.conn c.export_numbered.result c.reported_walk.result _ _ (λ s e f tells so. tells.left _ _ _ so) c.reported_walk.ensures c.export_numbered.ensures.part

pub returns-clause-never_refuses : goal.returns-clause-never_refuses
returns-clause-never_refuses g c = walk_refuses_nothing c.export_numbered.result c.reported_walk.result c.reported_walk.ensures

pub returns-clause-output : goal.returns-clause-output
returns-clause-output g c bad = c.export_numbered.ensures.refused (walk_blames_sink c.export_numbered.result c.reported_walk.result c.reported_walk.ensures bad)

pub returns-clause-fails : goal.returns-clause-fails
returns-clause-fails g c = walk_knows g.S.Store c.args.conn.now c.export_numbered.new.conn c.export_numbered.result c.reported_walk.result c.reported_walk.ensures c.export_numbered.ensures.read

pub returns-clause-cause : goal.returns-clause-cause
returns-clause-cause g c = walk_blames g.S.Store c.args.conn.now c.export_numbered.new.conn c.export_numbered.result c.reported_walk.result c.reported_walk.ensures c.export_numbered.ensures.read

pub returns-clause-read_only : goal.returns-clause-read_only
returns-clause-read_only g c = walk_reads g.S.Store c.args.conn.now c.export_numbered.new.conn c.export_numbered.result c.reported_walk.result c.reported_walk.ensures c.export_numbered.ensures.read
