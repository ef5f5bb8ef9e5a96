use Rattle.tb_import.proofs.Bounds.{taken_narrow}
use Rattle.tb_core.specs.Taking.{NewSentenceText}
use Rattle.std.specs.List.{AllByRecursion}
use Rattle.tb_core.specs.declared.refusals.Fault.TheVariants.{Device, NotADesk}
use Rattle.std.proofs.lemmas.Result.{err_from_is_err_and}
use Rattle.std.proofs.Common.{◌≡◌, map, ◌∙◌, Err, ◌<◌, ◌^◌, sym, subst}
use Rattle.sqlite.specs.Held.{state}
use Rattle.sqlite.proofs.StateLemmas.{survives_weaker}
use Rattle.tb_refine.specs.Written.{item_of}
use Rattle.tb_refine.proofs.Short.{never_reported}
use Rattle.tb_import.proofs.Meaning.{items_are}
use Rattle.tb_import.proofs.importing.write.Goals as goal

pub returns-in_err-commit_import-clause-crash : goal.returns-in_err-commit_import-clause-crash
returns-in_err-commit_import-clause-crash g c = survives_weaker (state g.S.Store c.args.conn.now) (state g.S.Store c.commit_import.new.conn) _ _ (λ _ db whole s bs desk known is allowed.
    let planned = c.in_ok-plan.ensures.planned s c.args.name.now bs desk.reachable.reached allowed known is in
    let items : c.as_slice.result.now ≡ map item_of bs = c.as_slice.ensures.value ∙ c.in_ok-items.ensures.reported ∙ items_are bs c.args.taken.now is in
    whole s bs desk (record { next = planned.number; first_next = planned.first; reported = items }) allowed (record { totals = c.in_ok-plan.plan.prepared.totals; stand = planned.prepared.stand; change = planned.prepared.change })) c.commit_import.ensures.crash

pub returns-clause-crash : goal.returns-clause-crash
returns-clause-crash g c = survives_weaker (state g.S.Store c.args.conn.now) (state g.S.Store c.commit_import.new.conn) _ _ (λ _ db whole s bs desk known is allowed.
    let planned = c.in_ok-plan.ensures.planned s c.args.name.now bs desk.reachable.reached allowed known is in
    let items : c.as_slice.result.now ≡ map item_of bs = c.as_slice.ensures.value ∙ c.in_ok-items.ensures.reported ∙ items_are bs c.args.taken.now is in
    whole s bs desk (record { next = planned.number; first_next = planned.first; reported = items }) allowed (record { totals = c.in_ok-plan.plan.prepared.totals; stand = planned.prepared.stand; change = planned.prepared.change })) c.commit_import.ensures.crash

pub returns-clause-answered : goal.returns-clause-answered
returns-clause-answered g c clean s bs desk known is allowed reachable =
    let planned = c.in_ok-plan.ensures.planned s c.args.name.now bs desk.reachable.reached allowed known is in
    let items : c.as_slice.result.now ≡ map item_of bs = c.as_slice.ensures.value ∙ c.in_ok-items.ensures.reported ∙ items_are bs c.args.taken.now is in (
      c.in_ok-commit_import.ensures.made clean s bs desk (record { next = planned.number; first_next = planned.first; reported = items }) allowed reachable (record { totals = c.in_ok-plan.plan.prepared.totals; stand = planned.prepared.stand; change = planned.prepared.change }),
      planned.prepared.stand,
      planned.reply,
    )

pub returns-in_err-items-clause-fails : goal.returns-in_err-items-clause-fails
returns-in_err-items-clause-fails g c clean unlimited s bs desk known is allowed next bad =
    let reported = err_from_is_err_and c.from_residual.result c.from_residual.ensures.1 in
    let failed : c.items_of.result ≡ Err NotADesk = let was = c.in_err-items.was in let one = reported.1 in let two = reported.2 in cc in
    c.items_of.ensures.fails (subst (AllByRecursion (λ (t : NewSentenceText). t.words < 2 ^ 32)) (sym is) (taken_narrow s c.args.name.now c.args.user.now bs next)) failed

pub returns-in_err-plan-clause-fails : goal.returns-in_err-plan-clause-fails
returns-in_err-plan-clause-fails g c clean unlimited s bs desk known is allowed next bad =
    let reported = err_from_is_err_and c.from_residual-in_err-plan.result c.from_residual-in_err-plan.ensures.1 in
    let failed : c.plan.result ≡ Err NotADesk = let was = c.in_err-plan.was in let one = reported.1 in let two = reported.2 in cc in
    c.plan.ensures.fails s c.args.name.now bs desk.reachable allowed next known is failed

pub returns-in_err-commit_import-clause-fails : goal.returns-in_err-commit_import-clause-fails
returns-in_err-commit_import-clause-fails g c clean unlimited s bs desk known is allowed next bad =
    let reported = err_from_is_err_and c.from_residual-in_err-commit_import.result c.from_residual-in_err-commit_import.ensures.1 in
    let failed : c.commit_import.result ≡ Err NotADesk = let was = c.in_err-commit_import.was in let one = reported.1 in let two = reported.2 in cc in
    let planned = c.in_ok-plan.ensures.planned s c.args.name.now bs desk.reachable.reached allowed known is in
    let items : c.as_slice.result.now ≡ map item_of bs = c.as_slice.ensures.value ∙ c.in_ok-items.ensures.reported ∙ items_are bs c.args.taken.now is in
    c.commit_import.ensures.fails clean unlimited s bs desk (record { next = planned.number; first_next = planned.first; reported = items }) allowed next (record { totals = c.in_ok-plan.plan.prepared.totals; stand = planned.prepared.stand; change = planned.prepared.change }) failed

pub returns-in_err-items-clause-cause : goal.returns-in_err-items-clause-cause
returns-in_err-items-clause-cause g c good clean unlimited s desk bs known is allowed next short free bad =
    let reported = err_from_is_err_and c.from_residual.result c.from_residual.ensures.1 in
    let failed : c.items_of.result ≡ Err Device = let was = c.in_err-items.was in let one = reported.1 in let two = reported.2 in cc in
    never_reported c.items_of.result failed c.items_of.ensures.cause

pub returns-in_err-plan-clause-cause : goal.returns-in_err-plan-clause-cause
returns-in_err-plan-clause-cause g c good clean unlimited s desk bs known is allowed next short free bad =
    let reported = err_from_is_err_and c.from_residual-in_err-plan.result c.from_residual-in_err-plan.ensures.1 in
    let failed : c.plan.result ≡ Err Device = let was = c.in_err-plan.was in let one = reported.1 in let two = reported.2 in cc in
    never_reported c.plan.result failed c.plan.ensures.cause

pub returns-in_err-commit_import-clause-cause : goal.returns-in_err-commit_import-clause-cause
returns-in_err-commit_import-clause-cause g c good clean unlimited s desk bs known is allowed next short free bad =
    let reported = err_from_is_err_and c.from_residual-in_err-commit_import.result c.from_residual-in_err-commit_import.ensures.1 in
    let failed : c.commit_import.result ≡ Err Device = let was = c.in_err-commit_import.was in let one = reported.1 in let two = reported.2 in cc in
    let planned = c.in_ok-plan.ensures.planned s c.args.name.now bs desk.reachable.reached allowed known is in
    let items : c.as_slice.result.now ≡ map item_of bs = c.as_slice.ensures.value ∙ c.in_ok-items.ensures.reported ∙ items_are bs c.args.taken.now is in
    c.commit_import.ensures.cause good clean unlimited s desk bs (record { next = planned.number; first_next = planned.first; reported = items }) allowed next (record { totals = c.in_ok-plan.plan.prepared.totals; stand = planned.prepared.stand; change = planned.prepared.change }) short free failed
