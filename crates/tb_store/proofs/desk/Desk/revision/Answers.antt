use Rattle.std.proofs.Common.{◌∙◌, sym, ap, subst, arith, Err}
use Rattle.tb_reads.proofs.Shown.{if_ok}
use Rattle.tb_store.specs.Kept.{Kept}
use Rattle.tb_store.specs.Represents.{Represents}
use Rattle.tb_refine.proofs.There.{sentence_there}
use Rattle.tb_store.proofs.Represented.{err_is, refuses_revision, is_within}
use Rattle.tb_store.proofs.Questions.{asked_of}
use Rattle.tb_store.proofs.desk.Desk.revision.Goals as goal

pub returns-clause-question : goal.returns-clause-question
returns-clause-question g c =
    asked_of g.S.Store c.self.view_is c.revision.new.conn c.revision.result c.self.invariant.unlimited c.revision.ensures.read_only
    (λ clean s here.
    let stands = subst (λ k. Represents g.S.Store k s) c.self.view_is here in
    let fits = c.in-Some.ensures.stands in
    let it = sentence_there s c.args.number c.in-Some.number fits.0 fits.1 (omega (arith, fits.2, stands.sentences, here.sentences)) in
    c.revision.ensures.fails clean c.self.invariant.unlimited s here.desk it.0 it.1)
    (λ good clean unlimited s desk. c.revision.ensures.cause good clean unlimited desk.holds.schema)

pub returns-clause-answered : goal.returns-clause-answered
returns-clause-answered g c clean = if_ok c.revision.result (c.revision.ensures.answered clean) (λ text reported s stands.
    let here = subst (λ k. Represents g.S.Store k s) (sym c.self.view_is) stands in
    let fits = c.in-Some.ensures.stands in
    let it = sentence_there s c.args.number c.in-Some.number fits.0 fits.1 (omega (arith, fits.2, stands.sentences, here.sentences)) in
    let read = reported s here.desk it.0 it.1 in
    record { place = _; found = it.0; there = it.2; given = read.0; current = read.1; reported = read.2 })

pub returns-clause-no_sentence : goal.returns-clause-no_sentence
returns-clause-no_sentence g c s stands lacks =
    let here = subst (λ k. Represents g.S.Store k s) (sym c.self.view_is) stands in
    let fits = c.in-Some.ensures.stands in
    let it = sentence_there s c.args.number c.in-Some.number fits.0 fits.1 (omega (arith, fits.2, stands.sentences, here.sentences)) in
    absurd (lacks _ it.0 it.2)

pub returns-clause-refused : goal.returns-clause-refused
returns-clause-refused g c clean = err_is c.revision.result (λ e is s stands.
    let here = subst (λ k. Represents g.S.Store k s) (sym c.self.view_is) stands in
    let fits = c.in-Some.ensures.stands in
    let it = sentence_there s c.args.number c.in-Some.number fits.0 fits.1 (omega (arith, fits.2, stands.sentences, here.sentences)) in
    refuses_revision s c.args.number c.args.rev e (λ r same.
    let reported = c.revision.ensures.refused clean r (is ∙ ap Err same) in
    (reported.0, (_, it.0, it.2, reported.1 s here.desk it.0 it.1))))

pub returns-clause-unasked : goal.returns-clause-unasked
returns-clause-unasked g c lacks =
    let fits = c.in-Some.ensures.stands in
    let same = ap (λ (k : Kept _). k.sentences) c.self.view_is in
    absurd (is_within c.in-Some.number c.args.number c.args.self.now.sentences fits.0 fits.1 (omega (arith, fits.2, same)) lacks)
