use Rattle.tb_answer.proofs.Bodied.{response_of}
use Rattle.tb_answer.proofs.Failing.{if_err, if_ok}
use Rattle.tb_answer.proofs.responding.respond_call.Goals as goal

pub returns-in-Question-clause-written : goal.returns-in-Question-clause-written
returns-in-Question-clause-written g c clean s stands =
    rw c.in-Question.is (response_of g.S.Store c.args.desk.now.limits s c.in-Question.question c.args.desk.now c.ask.new.desk (g.W.Sink.held c.args.out.now) (g.W.Sink.held c.respond_result.new.out) (g.W.Sink.IsRefusal c.respond_result.new.out) c.respond_result.result c.ask.result
    (λ opened. c.ask.ensures.read.read_only.keeps_state clean opened s stands)
    (if_ok c.ask.result (c.ask.ensures.read.answered clean) (λ b all. all s stands))
    (if_err c.ask.result (c.ask.ensures.read.reported clean) (λ r all. all s stands))
    c.respond_result.ensures)

pub returns-in-Question-clause-crash : goal.returns-in-Question-clause-crash
returns-in-Question-clause-crash g c = rw c.in-Question.is c.ask.ensures.read.read_only.crash

pub returns-in-Question-clause-limits : goal.returns-in-Question-clause-limits
returns-in-Question-clause-limits g c = c.ask.ensures.read.read_only.limits
