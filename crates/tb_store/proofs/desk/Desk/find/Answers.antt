use Rattle.tb_store.proofs.Questions.{asked}
use Rattle.tb_store.proofs.desk.Desk.find.Goals as goal

pub returns-clause-question : goal.returns-clause-question
returns-clause-question g c =
    asked g.S.Store c.self.view_is c.found.new.conn c.found.result c.self.invariant.unlimited c.found.ensures.read_only c.found.ensures.fails
    (λ good clean unlimited s desk. c.found.ensures.cause good clean unlimited desk.holds.schema)
