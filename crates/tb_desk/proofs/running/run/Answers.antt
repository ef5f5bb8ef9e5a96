use Rattle.std.proofs.Common.{subst}
use Rattle.tb_cli.specs.Lines.{said_by}
use Rattle.tb_desk.specs.Lines.{IsLineRun}
use Rattle.tb_host.specs.Reported.{IsTold}
use Rattle.tb_desk.proofs.running.run.Goals as goal

pub returns-in-File-clause-ended : goal.returns-in-File-clause-ended
returns-in-File-clause-ended g c =
    subst (IsLineRun g.R.Source.IsFailure g.R.Source.left c.args.reader.now c.run_on_file.new.reader (g.W.Sink.held c.args.out.now) (g.W.Sink.held c.run_on_file.new.out) (g.W.Sink.IsRefusal c.run_on_file.new.out) c.run_on_file.result.status c.args.is_wanted (IsTold c.run_on_file.result.reported) (said_by c.args.line.now)) c.in-File.ensures c.run_on_file.ensures.ended
