use Rattle.tb_store.proofs.Questions.{asked}
use Rattle.tb_store.proofs.desk.Desk.batches.Goals as goal

pub returns-clause-question : goal.returns-clause-question
returns-clause-question g c =
    asked g.S.Store c.self.view_is c.list_batches.new.conn c.list_batches.result c.self.invariant.unlimited c.list_batches.ensures.read.read_only c.list_batches.ensures.read.fails
    (λ good clean unlimited s desk. c.list_batches.ensures.read.cause good clean unlimited desk.holds.schema)
