use Rattle.std.proofs.Common.{ℕ, List, Result}
use Rattle.tb_http.specs.declared.replies.Reply.{Reply}
use Rattle.tb_cli.specs.Lines.{said_by}
use Rattle.tb_answer.specs.declared.written.Written.{Written}
use Rattle.tb_answer.specs.Ran.{IsRanAs}
use Rattle.tb_answer.proofs.Joined.{witnessed}
use Rattle.tb_answer.proofs.lines.run_line.Goals as goal

pub returns-clause-ran : goal.returns-clause-ran
returns-clause-ran g c clean s stands =
    let said = said_by c.args.line.now in
    let ran : Written → Result (List ℕ) Reply → Type 0 = λ w t. IsRanAs g.S.Store c.args.desk.now.limits s said t c.args.desk.now c.run_line_reported.new.desk (g.W.Sink.held c.args.out.now) (g.W.Sink.held c.run_line_reported.new.out) (g.W.Sink.IsRefusal c.run_line_reported.new.out) w c.run_line_reported.result.status in
    witnessed (λ v. v.items) c.args.body ran c.run_line_reported.result.written (c.run_line_reported.ensures.ran clean s stands)
