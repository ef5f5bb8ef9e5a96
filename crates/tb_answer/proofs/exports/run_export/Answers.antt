use Rattle.std.proofs.Common.{option_map}
use Rattle.tb_answer.specs.Commanded.{HasFailed}
use Rattle.tb_answer.proofs.Bodied.{export_output}
use Rattle.tb_answer.proofs.Failing.{if_err, if_ok}
use Rattle.tb_answer.proofs.exports.run_export.Goals as goal

pub returns-clause-written : goal.returns-clause-written
returns-clause-written g c clean s stands =
    export_output (HasFailed g.S.Store c.args.desk.now c.export_body.new.desk) s (option_map (λ n. n.now) c.args.name) (g.W.Sink.held c.args.out.now) (g.W.Sink.held c.by_body.new.out) (g.W.Sink.IsRefusal c.by_body.new.out) c.by_body.result.status c.by_body.result.written c.export_body.result
    (if_ok c.export_body.result (c.export_body.ensures.read.answered clean) (λ b all. all s stands))
    (if_err c.export_body.result (c.export_body.ensures.read.reported clean) (λ r all. all s stands))
    c.by_body.ensures

pub returns-clause-read_only : goal.returns-clause-read_only
returns-clause-read_only g c = c.export_body.ensures.read.read_only
