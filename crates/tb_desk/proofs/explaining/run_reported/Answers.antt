use Rattle.std.proofs.Common.{ℕ, List, Result}
use Rattle.tb_core.specs.Machine.{Machine}
use Rattle.tb_http.specs.declared.replies.Reply.{Reply}
use Rattle.tb_cli.specs.Lines.{said_by}
use Rattle.tb_answer.specs.Ran.{IsRanAs, IsLineSafe}
use Rattle.tb_desk.proofs.Ran.{taken_in, taken_so}
use Rattle.tb_desk.proofs.Telling.{no_words_so}
use Rattle.tb_desk.proofs.explaining.run_reported.Goals as goal

pub returns : goal.returns
returns g c =
    let said = said_by c.args.line.now in
    let ran : Machine → Result (List ℕ) Reply → Type 0 = λ s t. IsRanAs g.S.Store c.args.desk.now.limits s said t c.args.desk.now c.run_line_reported-ran.new.desk (g.W.Sink.held c.args.out.now) (g.W.Sink.held c.run_line_reported-ran.new.out) (g.W.Sink.IsRefusal c.run_line_reported-ran.new.out) c.run_line_reported-ran.result.written c.run_line_reported-ran.result.status in
    let safe : Result (List ℕ) Reply → Type 0 = λ t. IsLineSafe g.S.Store said t c.args.desk.now c.run_line_reported-ran.new.desk in
    record {
      answered = c.run_line_reported-ran.new.desk;
      written = c.run_line_reported-ran.result.written;
      ran = taken_in g.S.Store c.args.desk.now c.run_line_reported-ran.new.desk (λ v. v.items) c.args.body.now ran c.run_line_reported-ran.ensures.ran;
      safe = taken_so (λ v. v.items) c.args.body.now safe c.run_line_reported-ran.ensures.crash;
      explained = c.reported_of_run.ensures.read;
      told = no_words_so c.args.is_wanted c.reported_of_run.result c.reported_of_run.ensures.unwanted;
    }
