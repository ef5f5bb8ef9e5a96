use Rattle.tb_answer.specs.Commanded.{HasFailed}
use Rattle.tb_answer.specs.Found.{count_by}
use Rattle.tb_answer.proofs.Bodied.{count_output}
use Rattle.tb_answer.proofs.Failing.{if_err, if_ok}
use Rattle.tb_answer.proofs.counts.run_count.Goals as goal

pub returns-clause-written : goal.returns-clause-written
returns-clause-written g c clean s stands =
    count_output (HasFailed g.S.Store c.args.desk.now c.count_text.new.desk) c.args.desk.now.limits s (count_by c.args.count) (g.W.Sink.held c.args.out.now) (g.W.Sink.held c.by_count.new.out) (g.W.Sink.IsRefusal c.by_count.new.out) c.by_count.result.status c.by_count.result.written c.count_text.result
    (if_ok c.count_text.result (c.count_text.ensures.answered clean) (λ t all. all s stands))
    (if_err c.count_text.result (c.count_text.ensures.reported clean) (λ r all. all s stands))
    c.by_count.ensures

pub returns-clause-read_only : goal.returns-clause-read_only
returns-clause-read_only g c = c.count_text.ensures.read_only
