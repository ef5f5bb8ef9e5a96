use Rattle.std.proofs.Common.{◌≡◌, Err, IfErr, subst}
use Rattle.std.proofs.lemmas.Result.{err_from_is_err_and}
use Rattle.tb_core.specs.declared.refusals.Fault.TheVariants.{NotADesk, Output, Refused}
use Rattle.tb_core.specs.declared.refusals.Refusal.TheVariants.{TooManyHits}
use Rattle.tb_refine.specs.Faults.{IsNoDevice}
use Rattle.tb_tables.proofs.Causes.{handed_on}
use Rattle.tb_reads.proofs.ReadOnly.{read_failed, read_on}
use Rattle.tb_reads.proofs.Failing.{if_err}
use Rattle.tb_store.proofs.Questions.{asked}
use Rattle.tb_store.proofs.Walks.{number_given, number_refused, walk_blames, walk_blames_sink, walk_knows, walk_reads, walk_refuses_nothing}
use Rattle.tb_store.proofs.desk.Desk.number.Goals as goal

pub returns-clause-answered : goal.returns-clause-answered
returns-clause-answered g c =
    number_given g.S.Store c.self.view_is c.number_released-walk.new.conn c.number_released-walk.result c.in_ok-number.number c.in_ok-number.ensures c.args.query.now c.args.strategy c.number_released-walk.ensures.answered c.within.result c.within.ensures.below

pub returns-clause-refused : goal.returns-clause-refused
returns-clause-refused g c =
    number_refused g.S.Store c.self.view_is c.number_released-walk.new.conn c.number_released-walk.result c.in_ok-number.number c.in_ok-number.ensures c.args.query.now c.args.strategy c.number_released-walk.ensures.answered c.within.result c.within.ensures.above

pub returns-clause-question : goal.returns-clause-question
returns-clause-question g c =
    let old = c.self.inside.conn in
    let new = c.number_released-walk.new.conn in
    asked g.S.Store c.self.view_is new c.within.result c.self.invariant.unlimited (read_on _ (walk_reads g.S.Store old new c.number_released-walk.result _ c.in_ok-number.ensures c.number_released-walk.ensures.read))
    (λ clean unlimited s desk bad. let it : NotADesk ≡ Refused TooManyHits = subst (λ q. IfErr q (λ e. e ≡ Refused TooManyHits)) bad c.within.ensures.fault in cc)
    (λ good clean unlimited s desk. if_err c.within.result c.within.ensures.fault (λ e is bad. cc))

pub returns-in_err-number-clause-refused : goal.returns-in_err-number-clause-refused
returns-in_err-number-clause-refused g c clean r is =
    let reported = err_from_is_err_and c.from_residual.result c.from_residual.ensures.1 in
    let failed : c.reported_walk.result ≡ Err (Refused r) = let was = c.in_err-number.was in let one = reported.1 in let two = reported.2 in cc in
    absurd (walk_refuses_nothing c.number_released-walk.result c.reported_walk.result c.reported_walk.ensures r failed)

pub returns-in_err-number-clause-output : goal.returns-in_err-number-clause-output
returns-in_err-number-clause-output g c bad =
    let reported = err_from_is_err_and c.from_residual.result c.from_residual.ensures.1 in
    let failed : c.reported_walk.result ≡ Err Output = let was = c.in_err-number.was in let one = reported.1 in let two = reported.2 in cc in
    c.number_released-walk.ensures.never_refuses (walk_blames_sink c.number_released-walk.result c.reported_walk.result c.reported_walk.ensures failed)

pub returns-in_err-number-clause-question : goal.returns-in_err-number-clause-question
returns-in_err-number-clause-question g c =
    let old = c.self.inside.conn in
    let new = c.number_released-walk.new.conn in
    let walk = c.number_released-walk.result in
    let read = c.number_released-walk.ensures.read in
    asked g.S.Store c.self.view_is new c.from_residual.result c.self.invariant.unlimited (read_failed c.from_residual.result _ c.from_residual.ensures.1 (walk_reads g.S.Store old new walk c.reported_walk.result c.reported_walk.ensures read))
    (λ clean unlimited s desk bad.
    let reported = err_from_is_err_and c.from_residual.result c.from_residual.ensures.1 in
    let failed : c.reported_walk.result ≡ Err NotADesk = let was = c.in_err-number.was in let one = reported.1 in let two = reported.2 in cc in
    walk_knows g.S.Store old new walk c.reported_walk.result c.reported_walk.ensures read clean unlimited s desk failed)
    (λ good clean unlimited s desk. handed_on IsNoDevice c.from_residual.result c.in_err-number.field-0.0 c.from_residual.ensures.1 (walk_blames g.S.Store old new walk _ c.in_err-number.ensures read good clean unlimited s desk))
