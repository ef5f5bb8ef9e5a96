use Rattle.std.proofs.Common.{ℕ, List, Result}
use Rattle.tb_http.specs.declared.replies.Reply.{Reply}
use Rattle.tb_cli.specs.Lines.{said_by}
use Rattle.tb_check.specs.Check.{file_limit}
use Rattle.tb_answer.specs.Taken.{IsBodyAskedFor, IsTaken}
use Rattle.tb_answer.specs.Ran.{IsRan, IsLineSafe}
use Rattle.tb_answer.proofs.Joined.{joined}
use Rattle.tb_answer.proofs.lines.run_line_from.Goals as goal

pub returns-clause-ran : goal.returns-clause-ran
returns-clause-ran g c clean s stands =
    let said = said_by c.args.line.now in
    let taken : Result (List ℕ) Reply → Type 0 = λ t. IsTaken g.R.Source.IsFailure g.R.Source.left file_limit said c.args.reader.now c.read_body-body.new.reader t in
    let ran : Result (List ℕ) Reply → Type 0 = λ t. IsRan g.S.Store c.args.desk.now.limits s said t c.args.desk.now c.run_line.new.desk (g.W.Sink.held c.args.out.now) (g.W.Sink.held c.run_line.new.out) (g.W.Sink.IsRefusal c.run_line.new.out) c.run_line.result in
    joined (λ v. v.items) c.read_body-body.result taken ran c.read_body-body.ensures.taken (c.run_line.ensures.ran clean s stands)

pub returns-clause-crash : goal.returns-clause-crash
returns-clause-crash g c =
    let said = said_by c.args.line.now in
    let taken : Result (List ℕ) Reply → Type 0 = λ t. IsTaken g.R.Source.IsFailure g.R.Source.left file_limit said c.args.reader.now c.read_body-body.new.reader t in
    let safe : Result (List ℕ) Reply → Type 0 = λ t. IsLineSafe g.S.Store said t c.args.desk.now c.run_line.new.desk in
    joined (λ v. v.items) c.read_body-body.result taken safe c.read_body-body.ensures.taken c.run_line.ensures.crash

pub returns-clause-asked : goal.returns-clause-asked
returns-clause-asked g c has =
    let taken : Result (List ℕ) Reply → Type 0 = λ t. IsTaken g.R.Source.IsFailure g.R.Source.left file_limit (said_by c.args.line.now) c.args.reader.now c.read_body-body.new.reader t in
    let asked : Result (List ℕ) Reply → Type 0 = IsBodyAskedFor file_limit (g.R.Source.pieces c.args.reader.now) (g.R.Source.pieces c.read_body-body.new.reader) in
    joined (λ v. v.items) c.read_body-body.result taken asked c.read_body-body.ensures.taken (c.read_body-body.ensures.asked has)
