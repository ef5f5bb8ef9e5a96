use Rattle.std.proofs.Common.{◌≡◌, IfErr, refl, subst}
use Rattle.tb_http.specs.Asks.{reported_by}
use Rattle.tb_answer.proofs.Asked.{at_broken, only_broken, safe_after, served}
use Rattle.tb_answer.proofs.answering.answer.Goals as goal

pub returns-clause-answered : goal.returns-clause-answered
returns-clause-answered g c =
    served reported_by g.S.Store (g.R.Source.left c.args.reader.now) c.args.desk.now c.answer_read.new.desk (g.W.Sink.held c.args.out.now) (g.W.Sink.held c.answer_read.new.out) (g.W.Sink.IsRefusal c.answer_read.new.out) c.answer_read.result c.read_ask.result
    c.read_ask.ensures.asks c.answer_read.ensures.asked c.answer_read.ensures.unknown c.answer_read.ensures.memory (λ is. (c.answer_read.ensures.broken is).0) c.read_ask.ensures.memory

pub returns-clause-broken : goal.returns-clause-broken
returns-clause-broken g c is =
    let failed = only_broken reported_by g.S.Store (g.R.Source.left c.args.reader.now) c.args.desk.now c.answer_read.new.desk (g.W.Sink.held c.args.out.now) (g.W.Sink.held c.answer_read.new.out) (g.W.Sink.IsRefusal c.answer_read.new.out) c.answer_read.result c.read_ask.result c.answer_read.ensures.asked c.answer_read.ensures.memory is in
    (subst (λ r. IfErr r (λ _. c.answer_read.new.desk ≡ c.args.desk.now)) failed c.answer_read.ensures.unknown, (c.answer_read.ensures.broken failed).1)

pub returns-clause-cause : goal.returns-clause-cause
returns-clause-cause g c is =
    let failed = only_broken reported_by g.S.Store (g.R.Source.left c.args.reader.now) c.args.desk.now c.answer_read.new.desk (g.W.Sink.held c.args.out.now) (g.W.Sink.held c.answer_read.new.out) (g.W.Sink.IsRefusal c.answer_read.new.out) c.answer_read.result c.read_ask.result c.answer_read.ensures.asked c.answer_read.ensures.memory is in
    (at_broken _ c.read_ask.result failed c.read_ask.ensures.why refl, at_broken _ c.read_ask.result failed c.read_ask.ensures.fault)

pub returns-clause-asked : goal.returns-clause-asked
returns-clause-asked g c other = c.read_ask.ensures.asked (λ failed. other (c.answer_read.ensures.broken failed).0)

pub returns-clause-crash : goal.returns-clause-crash
returns-clause-crash g c =
    safe_after reported_by g.S.Store (g.R.Source.left c.args.reader.now) c.args.desk.now c.answer_read.new.desk (g.W.Sink.held c.args.out.now) (g.W.Sink.held c.answer_read.new.out) (g.W.Sink.IsRefusal c.answer_read.new.out) c.answer_read.result c.read_ask.result
    c.read_ask.ensures.asks c.answer_read.ensures.crash c.answer_read.ensures.unknown
