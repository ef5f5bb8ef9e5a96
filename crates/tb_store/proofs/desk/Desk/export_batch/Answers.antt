use Rattle.tb_store.proofs.Questions.{asked, unasked}
use Rattle.tb_store.proofs.desk.Desk.export_batch.Goals as goal

pub returns-clause-question : goal.returns-clause-question
returns-clause-question g c =
    asked g.S.Store c.self.view_is c.batch.new.conn c.batch.result c.self.invariant.unlimited c.batch.ensures.read_only c.batch.ensures.fails c.batch.ensures.cause

pub returns-clause-unasked : goal.returns-clause-unasked
returns-clause-unasked g c bad = unasked c.self.view_is c.batch.new.conn (c.batch.ensures.unasked bad)
