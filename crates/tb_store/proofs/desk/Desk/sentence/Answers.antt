use Rattle.std.proofs.Common.{sym, subst, arith, ap}
use Rattle.tb_reads.proofs.Shown.{if_ok}
use Rattle.tb_store.specs.Kept.{Kept}
use Rattle.tb_store.specs.Represents.{Represents}
use Rattle.tb_refine.proofs.There.{sentence_there}
use Rattle.tb_store.proofs.Represented.{is_within}
use Rattle.tb_store.proofs.Questions.{asked_of}
use Rattle.tb_store.proofs.desk.Desk.sentence.Goals as goal

pub returns-clause-question : goal.returns-clause-question
returns-clause-question g c =
    asked_of g.S.Store c.self.view_is c.sentence.new.conn c.sentence.result c.self.invariant.unlimited c.sentence.ensures.read.read_only
    (λ clean s here.
    let stands = subst (λ k. Represents g.S.Store k s) c.self.view_is here in
    let fits = c.in-Some.ensures.stands in
    let it = sentence_there s c.args.number c.in-Some.number fits.0 fits.1 (omega (arith, fits.2, stands.sentences, here.sentences)) in
    c.sentence.ensures.read.fails clean c.self.invariant.unlimited s here.desk it.0 it.1)
    (λ good clean unlimited s desk. c.sentence.ensures.read.cause good clean unlimited desk.holds.schema)

pub returns-clause-answered : goal.returns-clause-answered
returns-clause-answered g c clean = if_ok c.sentence.result (c.sentence.ensures.answered clean) (λ current reported s stands.
    let here = subst (λ k. Represents g.S.Store k s) (sym c.self.view_is) stands in
    let fits = c.in-Some.ensures.stands in
    let it = sentence_there s c.args.number c.in-Some.number fits.0 fits.1 (omega (arith, fits.2, stands.sentences, here.sentences)) in
    let read = reported s here.desk it.0 it.1 in
    record { place = _; found = it.0; there = it.2; current = read.0; reported = read.1 })

pub returns-clause-refused : goal.returns-clause-refused
returns-clause-refused g c s stands =
    let here = subst (λ k. Represents g.S.Store k s) (sym c.self.view_is) stands in
    let fits = c.in-Some.ensures.stands in
    let it = sentence_there s c.args.number c.in-Some.number fits.0 fits.1 (omega (arith, fits.2, stands.sentences, here.sentences)) in
    ((λ e place x has. c.sentence.ensures.read.never_refuses _ e), (λ lacks. absurd (lacks _ it.0 it.2)))

pub returns-clause-unasked : goal.returns-clause-unasked
returns-clause-unasked g c lacks =
    let fits = c.in-Some.ensures.stands in
    let same = ap (λ (k : Kept _). k.sentences) c.self.view_is in
    absurd (is_within c.in-Some.number c.args.number c.args.self.now.sentences fits.0 fits.1 (omega (arith, fits.2, same)) lacks)
