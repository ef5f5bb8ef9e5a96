use Rattle.std.proofs.Common.{◌≡◌, refl, arith, Err, ◌∙◌}
use Rattle.std.proofs.lemmas.Result.{err_from_is_err_and}
use Rattle.sqlite.specs.Held.{state}
use Rattle.sqlite.specs.State.{HasCleanDisk}
use Rattle.sqlite.proofs.StateLemmas.{survives_then, survives_weaker}
use Rattle.tb_core.specs.declared.refusals.Fault.TheVariants.{Device, Refused, NotADesk}
use Rattle.tb_core.specs.Acts.{stepping, after, moved, move_of}
use Rattle.tb_core.specs.Commands.{event_on, replied, moved_on}
use Rattle.tb_tables.proofs.Commands.{same_holds}
use Rattle.tb_refine.proofs.Unchanged.{desk_after}
use Rattle.tb_commands.proofs.Stepped.{changed_length, one_longer}
use Rattle.tb_tables.proofs.Causes.{faultless_next}
use Rattle.tb_commands.proofs.Short.{never_reported}
use Rattle.tb_commands.proofs.stepping.event.Goals as goal

pub returns-in_err-plan-clause-refused : goal.returns-in_err-plan-clause-refused
returns-in_err-plan-clause-refused g c clean r is s desk counted =
    let reported = err_from_is_err_and c.from_residual.result c.from_residual.ensures.1 in
    let failed : c.planned.result ≡ Err (Refused r) = let was = c.in_err-plan.was in let one = reported.1 in let two = reported.2 in cc in
    c.planned.ensures.refused clean r failed s desk counted

pub returns-in_err-plan-clause-crash : goal.returns-in_err-plan-clause-crash
returns-in_err-plan-clause-crash g c = survives_weaker (state g.S.Store c.args.conn.now) (state g.S.Store c.planned.new.conn) _ _ (λ _ _ other s desk counted. absurd (other desk.holds.schema)) c.planned.ensures.read_only.commits_nothing

pub returns-in_err-write-clause-keeps_records : goal.returns-in_err-write-clause-keeps_records
returns-in_err-write-clause-keeps_records g c clean opened =
    let reported = err_from_is_err_and c.from_residual-in_err-write.result c.from_residual-in_err-write.ensures.1 in
    let mid : HasCleanDisk (state g.S.Store c.planned.new.conn) = omega (arith, clean, c.write.ensures.crash.clean) in
    let kept = c.in_err-write.ensures.keeps_records clean opened in
    rw reported.1 (λ d holds. kept d (same_holds g.S.Store c.args.conn.now c.planned.new.conn d holds (c.in_ok-plan.ensures.read_only.unchanged mid holds.schema)))

pub returns-in_err-write-clause-crash : goal.returns-in_err-write-clause-crash
returns-in_err-write-clause-crash g c = survives_then (state g.S.Store c.args.conn.now) (state g.S.Store c.planned.new.conn) (state g.S.Store c.write.new.conn) _ _ _ (λ _ _ other s desk counted. absurd (other desk.holds.schema)) (λ clean db whole s desk counted.
    let mid : HasCleanDisk (state g.S.Store c.planned.new.conn) = omega (arith, clean, c.write.ensures.crash.clean) in
    let first = desk_after c.in_ok-plan.ensures.read_only mid desk in
    let plan = c.in_ok-plan.ensures.answered mid s desk counted in
    (replied (moved_on c.in_ok-plan.plan.reply), after s (stepping plan.0 c.args.event c.args.user.now), plan.3, whole s first plan.0 c.args.event c.args.user.now plan.1 plan.2)) c.planned.ensures.read_only.commits_nothing c.write.ensures.crash

pub returns-clause-crash : goal.returns-clause-crash
returns-clause-crash g c = survives_then (state g.S.Store c.args.conn.now) (state g.S.Store c.planned.new.conn) (state g.S.Store c.write.new.conn) _ _ _ (λ _ _ other s desk counted. absurd (other desk.holds.schema)) (λ clean db whole s desk counted.
    let mid : HasCleanDisk (state g.S.Store c.planned.new.conn) = omega (arith, clean, c.write.ensures.crash.clean) in
    let first = desk_after c.in_ok-plan.ensures.read_only mid desk in
    let plan = c.in_ok-plan.ensures.answered mid s desk counted in
    (replied (moved_on c.in_ok-plan.plan.reply), after s (stepping plan.0 c.args.event c.args.user.now), plan.3, whole s first plan.0 c.args.event c.args.user.now plan.1 plan.2)) c.planned.ensures.read_only.commits_nothing c.write.ensures.crash

pub returns-clause-answered : goal.returns-clause-answered
returns-clause-answered g c clean s desk counted =
    let mid : HasCleanDisk (state g.S.Store c.planned.new.conn) = omega (arith, clean, c.write.ensures.crash.clean) in
    let first = desk_after c.in_ok-plan.ensures.read_only mid desk in
    let plan = c.in_ok-plan.ensures.answered mid s desk counted in
    let a = stepping plan.0 c.args.event c.args.user.now in
    let within = c.requires.within in
    record {
      next = after s a;
      steps = plan.3;
      desk = record {
        reachable = c.commands_stay_within_limits.ensures c.args.counts.now.limits s (after s a) (event_on c.args.name.now c.args.event c.args.user.now) (replied (moved_on c.in_ok-plan.plan.reply)) within.sentences within.moves desk.reachable plan.3;
        holds = c.in_ok-write.ensures.done clean s first plan.0 c.args.event c.args.user.now plan.1 plan.2;
      };
      totals = plan.1.prepared.stand;
      batches = changed_length (moved c.args.event c.args.user.now) s.batches plan.0;
      sentences = refl;
      moves = one_longer s.moves (move_of s a);
    }

pub returns-in_err-plan-clause-fails : goal.returns-in_err-plan-clause-fails
returns-in_err-plan-clause-fails g c clean unlimited s desk counted bad =
    let reported = err_from_is_err_and c.from_residual.result c.from_residual.ensures.1 in
    let failed : c.planned.result ≡ Err NotADesk = let was = c.in_err-plan.was in let one = reported.1 in let two = reported.2 in cc in
    c.planned.ensures.fails clean unlimited s desk counted c.requires.within failed

pub returns-in_err-write-clause-fails : goal.returns-in_err-write-clause-fails
returns-in_err-write-clause-fails g c clean unlimited s desk counted bad =
    let reported = err_from_is_err_and c.from_residual-in_err-write.result c.from_residual-in_err-write.ensures.1 in
    let failed : c.write.result ≡ Err NotADesk = let was = c.in_err-write.was in let one = reported.1 in let two = reported.2 in cc in
    let mid : HasCleanDisk (state g.S.Store c.planned.new.conn) = omega (arith, clean, c.write.ensures.crash.clean) in
    let first = desk_after c.in_ok-plan.ensures.read_only mid desk in
    let plan = c.in_ok-plan.ensures.answered mid s desk counted in
    c.write.ensures.fails clean (c.planned.ensures.read_only.commits_nothing.limit ∙ unlimited) s first plan.0 c.args.event c.args.user.now plan.1 plan.2 failed

pub returns-in_err-plan-clause-cause : goal.returns-in_err-plan-clause-cause
returns-in_err-plan-clause-cause g c good clean unlimited s desk counted bad =
    let reported = err_from_is_err_and c.from_residual.result c.from_residual.ensures.1 in
    let failed : c.planned.result ≡ Err Device = let was = c.in_err-plan.was in let one = reported.1 in let two = reported.2 in cc in
    never_reported c.planned.result failed (c.planned.ensures.cause good clean unlimited desk.holds.schema)

pub returns-in_err-write-clause-cause : goal.returns-in_err-write-clause-cause
returns-in_err-write-clause-cause g c good clean unlimited s desk counted bad =
    let reported = err_from_is_err_and c.from_residual-in_err-write.result c.from_residual-in_err-write.ensures.1 in
    let failed : c.write.result ≡ Err Device = let was = c.in_err-write.was in let one = reported.1 in let two = reported.2 in cc in
    let mid : HasCleanDisk (state g.S.Store c.planned.new.conn) = omega (arith, clean, c.write.ensures.crash.clean) in
    let here = faultless_next (state g.S.Store c.args.conn.now) (state g.S.Store c.planned.new.conn) (state g.S.Store c.write.new.conn) good c.planned.ensures.read_only.commits_nothing mid c.write.ensures.crash.counts in
    let first = desk_after c.in_ok-plan.ensures.read_only mid desk in
    let plan = c.in_ok-plan.ensures.answered mid s desk counted in
    c.write.ensures.cause here clean (c.planned.ensures.read_only.commits_nothing.limit ∙ unlimited) s first plan.0 c.args.event c.args.user.now plan.1 plan.2 failed
