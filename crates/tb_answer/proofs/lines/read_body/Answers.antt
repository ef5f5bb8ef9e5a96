use Rattle.std.proofs.Common.{List, ℕ, Result, inl, inr, sym, ◌∙◌}
use Rattle.tb_check.specs.Check.{file_limit}
use Rattle.tb_cli.specs.Lines.{said_by}
use Rattle.tb_http.specs.declared.replies.Reply.{Reply}
use Rattle.tb_answer.specs.Taken.{IsBodyAskedFor, IsTaken, body_in}
use Rattle.tb_answer.proofs.Bodied.{body_asked, body_taken, matched}
use Rattle.tb_answer.proofs.lines.read_body.Goals as goal

pub returns-clause-taken : goal.returns-clause-taken
returns-clause-taken g c =
    let taken : Result (List ℕ) Reply → Type 0 = IsTaken g.R.Source.IsFailure g.R.Source.left file_limit (said_by c.args.line.now) c.args.reader.now c.read_all.new.source in
    let came = body_taken (g.R.Source.IsFailure c.read_all.new.source) file_limit (g.R.Source.left c.args.reader.now) (g.R.Source.left c.read_all.new.source) c.read_all.result c.read_all.ensures.came in
    matched (λ v. v.items) c.body_of.result (body_in c.read_all.result) taken c.body_of.ensures (inl (sym c.if-not-has_body.ensures, came))

pub returns-clause-asked : goal.returns-clause-asked
returns-clause-asked g c has =
    let old = g.R.Source.pieces c.args.reader.now in
    let new = g.R.Source.pieces c.read_all.new.source in
    let asked : Result (List ℕ) Reply → Type 0 = IsBodyAskedFor file_limit old new in
    matched (λ v. v.items) c.body_of.result (body_in c.read_all.result) asked c.body_of.ensures (body_asked file_limit old new c.read_all.result c.read_all.ensures.asked)
