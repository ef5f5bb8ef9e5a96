use Rattle.tb_store.proofs.Questions.{asked, unasked}
use Rattle.tb_store.proofs.desk.Desk.sentences.Goals as goal

pub returns-clause-question : goal.returns-clause-question
returns-clause-question g c =
    asked g.S.Store c.self.view_is c.sentences.new.conn c.sentences.result c.self.invariant.unlimited c.sentences.ensures.read_only c.sentences.ensures.fails
    (λ good clean unlimited s desk. c.sentences.ensures.cause good clean unlimited desk.holds.schema)

pub returns-clause-unasked : goal.returns-clause-unasked
returns-clause-unasked g c bad = unasked c.self.view_is c.sentences.new.conn (c.sentences.ensures.unasked bad)
