use Rattle.std.proofs.Common.{subst}
use Rattle.tb_page.specs.Answered.{AnswersVisit, ReadsFor}
use Rattle.tb_page.specs.Visits.{VisitText, Visits}
use Rattle.tb_desk.specs.Serving.{ReadsOne}
use Rattle.tb_desk.proofs.serving.answer_at.Goals as goal

pub returns-in-Some-clause-page : goal.returns-in-Some-clause-page
returns-in-Some-clause-page g c =
    rw c.in-Some.is
    (subst (λ came. (v : VisitText) × Visits c.in-Some.port came v
    × AnswersVisit g.S.Store c.args.desk.now c.answer_with_page.new.desk (g.W.Sink.held c.args.out.now) (g.W.Sink.held c.answer_with_page.new.out) (g.W.Sink.IsRefusal c.answer_with_page.new.out) c.answer_with_page.result came (g.R.Source.left c.args.reader.now) v)
    c.said.ensures c.answer_with_page.ensures.answered)

pub returns-in-Some-clause-reads : goal.returns-in-Some-clause-reads
returns-in-Some-clause-reads g c =
    rw c.in-Some.is
    (subst (λ came. (v : VisitText) × Visits c.in-Some.port came v
    × ReadsFor c.args.reader.now c.answer_with_page.new.reader v (ReadsOne (g.R.Source.pieces c.args.reader.now) (g.R.Source.pieces c.answer_with_page.new.reader) (g.R.Source.left c.args.reader.now) (g.R.Source.left c.answer_with_page.new.reader) c.answer_with_page.result))
    c.said.ensures c.answer_with_page.ensures.asked)
