use Rattle.tb_store.proofs.Questions.{asked}
use Rattle.tb_store.proofs.desk.Desk.moves.Goals as goal

pub returns-clause-question : goal.returns-clause-question
returns-clause-question g c =
    asked g.S.Store c.self.view_is c.all_moves.new.conn c.all_moves.result c.self.invariant.unlimited c.all_moves.ensures.read.read_only c.all_moves.ensures.read.fails
    (λ good clean unlimited s desk. c.all_moves.ensures.read.cause good clean unlimited desk.holds.schema)
