use Rattle.std.proofs.Common.{◌≡◌, ◌+◌, ◌-◌, length, refl, sym, subst, arith, Err, length-append, [], ◌∷◌, ◌∙◌}
use Rattle.std.proofs.lemmas.Result.{err_from_is_err_and}
use Rattle.sqlite.specs.Held.{state}
use Rattle.sqlite.specs.State.{HasCleanDisk}
use Rattle.sqlite.proofs.StateLemmas.{survives_then, survives_weaker}
use Rattle.tb_core.specs.declared.refusals.Fault.TheVariants.{Device, Refused, NotADesk}
use Rattle.tb_core.specs.Acts.{correcting, corrected, after, move_of}
use Rattle.tb_core.specs.Commands.{correct, replied, corrected_to}
use Rattle.tb_core.proofs.Weights.{length-changed}
use Rattle.tb_tables.proofs.Commands.{same_holds}
use Rattle.tb_commands.specs.Correcting.{PlanText, IsPlannedCorrection}
use Rattle.tb_refine.proofs.Unchanged.{desk_after}
use Rattle.sqlite.specs.Effect.{Database}
use Rattle.tb_tables.specs.Failing.{IsShort, HasRowids}
use Rattle.tb_tables.proofs.Causes.{faultless_next}
use Rattle.tb_commands.proofs.Short.{never_reported}
use Rattle.tb_commands.proofs.correcting.correct.Goals as goal

pub returns-in_err-reply-clause-refused : goal.returns-in_err-reply-clause-refused
returns-in_err-reply-clause-refused g c clean r is s desk counted within =
    let reported = err_from_is_err_and c.from_residual.result c.from_residual.ensures.1 in
    let failed : c.planned.result ≡ Err (Refused r) = let was = c.in_err-reply.was in let one = reported.1 in let two = reported.2 in cc in
    c.planned.ensures.refused clean r failed s desk counted within

pub returns-in_err-reply-clause-crash : goal.returns-in_err-reply-clause-crash
returns-in_err-reply-clause-crash g c = survives_weaker (state g.S.Store c.args.conn.now) (state g.S.Store c.planned.new.conn) _ _ (λ _ _ other s desk counted within. absurd (other desk.holds.schema)) c.planned.ensures.read_only.commits_nothing

pub returns-in_default-clause-crash : goal.returns-in_default-clause-crash
returns-in_default-clause-crash g c = survives_weaker (state g.S.Store c.args.conn.now) (state g.S.Store c.planned.new.conn) _ _ (λ _ _ other s desk counted within. absurd (other desk.holds.schema)) c.planned.ensures.read_only.commits_nothing

pub returns-in_err-correct-clause-keeps_records : goal.returns-in_err-correct-clause-keeps_records
returns-in_err-correct-clause-keeps_records g c clean opened =
    let reported = err_from_is_err_and c.from_residual-in_err-correct.result c.from_residual-in_err-correct.ensures.1 in
    let mid : HasCleanDisk (state g.S.Store c.planned.new.conn) = omega (arith, clean, c.correct.ensures.crash.clean) in
    let kept = c.in_err-correct.ensures.keeps_records clean opened in
    rw reported.1 (λ d holds. kept d (same_holds g.S.Store c.args.conn.now c.planned.new.conn d holds (c.in_ok-reply.ensures.read_only.unchanged mid holds.schema)))

pub returns-in_err-correct-clause-crash : goal.returns-in_err-correct-clause-crash
returns-in_err-correct-clause-crash g c = survives_then (state g.S.Store c.args.conn.now) (state g.S.Store c.planned.new.conn) (state g.S.Store c.correct.new.conn) _ _ _ (λ _ _ other s desk counted within. absurd (other desk.holds.schema)) (λ clean db whole s desk counted within.
    let mid : HasCleanDisk (state g.S.Store c.planned.new.conn) = omega (arith, clean, c.correct.ensures.crash.clean) in
    let first = desk_after c.in_ok-reply.ensures.read_only mid desk in
    let answered = rw c.in-Some.is at c.in_ok-reply.ensures.answered in
    let plan = answered mid s desk counted within in
    let held = subst (λ (p : PlanText). IsPlannedCorrection s c.args.number c.args.user.now plan.0 p) (sym c.plan.view_is) plan.1 in
    (replied (corrected_to c.in_ok-reply.reply), after s (correcting (c.args.number - 1) c.args.user.now plan.0), plan.3, whole s plan.0 held.sentence first held.made plan.2 held.change)) c.planned.ensures.read_only.commits_nothing c.correct.ensures.crash

pub returns-clause-crash : goal.returns-clause-crash
returns-clause-crash g c = survives_then (state g.S.Store c.args.conn.now) (state g.S.Store c.planned.new.conn) (state g.S.Store c.correct.new.conn) _ _ _ (λ _ _ other s desk counted within. absurd (other desk.holds.schema)) (λ clean db whole s desk counted within.
    let mid : HasCleanDisk (state g.S.Store c.planned.new.conn) = omega (arith, clean, c.correct.ensures.crash.clean) in
    let first = desk_after c.in_ok-reply.ensures.read_only mid desk in
    let answered = rw c.in-Some.is at c.in_ok-reply.ensures.answered in
    let plan = answered mid s desk counted within in
    let held = subst (λ (p : PlanText). IsPlannedCorrection s c.args.number c.args.user.now plan.0 p) (sym c.plan.view_is) plan.1 in
    (replied (corrected_to c.in_ok-reply.reply), after s (correcting (c.args.number - 1) c.args.user.now plan.0), plan.3, whole s plan.0 held.sentence first held.made plan.2 held.change)) c.planned.ensures.read_only.commits_nothing c.correct.ensures.crash

pub returns-clause-answered : goal.returns-clause-answered
returns-clause-answered g c clean s desk counted within =
    let mid : HasCleanDisk (state g.S.Store c.planned.new.conn) = omega (arith, clean, c.correct.ensures.crash.clean) in
    let first = desk_after c.in_ok-reply.ensures.read_only mid desk in
    let answered = rw c.in-Some.is at c.in_ok-reply.ensures.answered in
    let plan = answered mid s desk counted within in
    let held = subst (λ (p : PlanText). IsPlannedCorrection s c.args.number c.args.user.now plan.0 p) (sym c.plan.view_is) plan.1 in
    let a = correcting (c.args.number - 1) c.args.user.now plan.0 in
    let limits = c.requires.within in
    let reachable = c.commands_stay_within_limits.ensures c.args.counts.now.limits s (after s a) (correct c.args.number c.args.base c.args.user.now c.args.body.now) (replied (corrected_to c.in_ok-reply.reply)) limits.sentences limits.moves desk.reachable plan.3 in
    record {
      next = after s a;
      steps = plan.3;
      desk = c.in_ok-correct.ensures.made clean s plan.0 held.sentence first held.made plan.2 reachable held.change;
      totals = held.totals;
      batches = refl;
      sentences = length-changed (corrected c.args.user.now plan.0) s.sentences (c.args.number - 1);
      moves = length-append s.moves (move_of s a ∷ []);
    }

pub returns-in_err-reply-clause-fails : goal.returns-in_err-reply-clause-fails
returns-in_err-reply-clause-fails g c clean unlimited s desk counted within bad =
    let reported = err_from_is_err_and c.from_residual.result c.from_residual.ensures.1 in
    let failed : c.planned.result ≡ Err NotADesk = let was = c.in_err-reply.was in let one = reported.1 in let two = reported.2 in cc in
    c.planned.ensures.fails clean unlimited c.requires.within s desk counted within failed

pub returns-in_err-correct-clause-refused : goal.returns-in_err-correct-clause-refused
returns-in_err-correct-clause-refused g c clean r is s desk counted within =
    let reported = err_from_is_err_and c.from_residual-in_err-correct.result c.from_residual-in_err-correct.ensures.1 in
    let failed : c.correct.result ≡ Err (Refused r) = let was = c.in_err-correct.was in let one = reported.1 in let two = reported.2 in cc in
    absurd (c.correct.ensures.never_refuses r failed)

pub returns-in_err-correct-clause-fails : goal.returns-in_err-correct-clause-fails
returns-in_err-correct-clause-fails g c clean unlimited s desk counted within bad =
    let reported = err_from_is_err_and c.from_residual-in_err-correct.result c.from_residual-in_err-correct.ensures.1 in
    let failed : c.correct.result ≡ Err NotADesk = let was = c.in_err-correct.was in let one = reported.1 in let two = reported.2 in cc in
    let mid : HasCleanDisk (state g.S.Store c.planned.new.conn) = omega (arith, clean, c.correct.ensures.crash.clean) in
    let first = desk_after c.in_ok-reply.ensures.read_only mid desk in
    let answered = rw c.in-Some.is at c.in_ok-reply.ensures.answered in
    let plan = answered mid s desk counted within in
    let held = subst (λ (p : PlanText). IsPlannedCorrection s c.args.number c.args.user.now plan.0 p) (sym c.plan.view_is) plan.1 in
    c.correct.ensures.fails clean (c.planned.ensures.read_only.commits_nothing.limit ∙ unlimited) s plan.0 held.sentence first held.made plan.2 held.change failed

pub returns-in_err-reply-clause-cause : goal.returns-in_err-reply-clause-cause
returns-in_err-reply-clause-cause g c good clean unlimited s desk counted within room bad =
    let reported = err_from_is_err_and c.from_residual.result c.from_residual.ensures.1 in
    let failed : c.planned.result ≡ Err Device = let was = c.in_err-reply.was in let one = reported.1 in let two = reported.2 in cc in
    never_reported c.planned.result failed (c.planned.ensures.cause good clean unlimited desk.holds.schema)

pub returns-in_err-correct-clause-cause : goal.returns-in_err-correct-clause-cause
returns-in_err-correct-clause-cause g c good clean unlimited s desk counted within room bad =
    let reported = err_from_is_err_and c.from_residual-in_err-correct.result c.from_residual-in_err-correct.ensures.1 in
    let failed : c.correct.result ≡ Err Device = let was = c.in_err-correct.was in let one = reported.1 in let two = reported.2 in cc in
    let mid : HasCleanDisk (state g.S.Store c.planned.new.conn) = omega (arith, clean, c.correct.ensures.crash.clean) in
    let here = faultless_next (state g.S.Store c.args.conn.now) (state g.S.Store c.planned.new.conn) (state g.S.Store c.correct.new.conn) good c.planned.ensures.read_only.commits_nothing mid c.correct.ensures.crash.counts in
    let same = c.in_ok-reply.ensures.read_only.unchanged mid desk.holds.schema in
    let first = desk_after c.in_ok-reply.ensures.read_only mid desk in
    let answered = rw c.in-Some.is at c.in_ok-reply.ensures.answered in
    let plan = answered mid s desk counted within in
    let held = subst (λ (p : PlanText). IsPlannedCorrection s c.args.number c.args.user.now plan.0 p) (sym c.plan.view_is) plan.1 in
    let text = rw c.in-Some.is at c.in_ok-reply.ensures.text in
    let spelled = subst (λ (p : PlanText). p.text ≡ c.args.body.now) (sym c.plan.view_is) text in
    let a = correcting (c.args.number - 1) c.args.user.now plan.0 in
    let longer : length (after s a).moves ≡ length s.moves + 1 = length-append s.moves (move_of s a ∷ []) in
    let has = room (corrected_to c.in_ok-reply.reply) (after s a) plan.3 (omega (arith, longer)) in
    let left = subst (λ (d : Database). HasRowids 1 (d.trees 5)) (sym same.0.now_is) has.1 in
    c.correct.ensures.cause here clean (c.planned.ensures.read_only.commits_nothing.limit ∙ unlimited) s first plan.0 held.sentence held.made plan.2 held.change (subst IsShort (sym spelled) has.0) left failed
