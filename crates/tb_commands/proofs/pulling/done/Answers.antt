use Rattle.std.proofs.Common.{◌≡◌, arith, Err, ◌∙◌, length-append, [], ◌∷◌}
use Rattle.std.proofs.lemmas.Result.{err_from_is_err_and}
use Rattle.sqlite.specs.Held.{state}
use Rattle.sqlite.specs.State.{HasCleanDisk}
use Rattle.sqlite.proofs.StateLemmas.{survives_then, survives_weaker}
use Rattle.tb_core.specs.declared.refusals.Fault.TheVariants.{Device, Refused, NotADesk}
use Rattle.tb_core.specs.Acts.{after, move_of}
use Rattle.tb_core.specs.Commands.{replied}
use Rattle.tb_tables.proofs.Commands.{same_holds}
use Rattle.tb_refine.proofs.Unchanged.{desk_after}
use Rattle.tb_commands.proofs.Pulled.{judged_written, same_batches, same_sentences}
use Rattle.tb_tables.proofs.Causes.{faultless_next}
use Rattle.tb_commands.proofs.Short.{never_reported}
use Rattle.tb_commands.specs.Pulling.{command_of, act_of, reply_of}
use Rattle.tb_commands.proofs.pulling.done.Goals as goal

pub returns-in_err-read-clause-refused : goal.returns-in_err-read-clause-refused
returns-in_err-read-clause-refused g c clean r is s desk counted within =
    let reported = err_from_is_err_and c.from_residual.result c.from_residual.ensures.1 in
    let failed : c.planned.result ≡ Err (Refused r) = let was = c.in_err-read.was in let one = reported.1 in let two = reported.2 in cc in
    c.planned.ensures.refused clean r failed s desk counted within

pub returns-in_err-read-clause-crash : goal.returns-in_err-read-clause-crash
returns-in_err-read-clause-crash g c = survives_weaker (state g.S.Store c.args.conn.now) (state g.S.Store c.planned.new.conn) _ _ (λ _ _ other s desk counted within. absurd (other desk.holds.schema)) c.planned.ensures.read_only.commits_nothing

pub returns-in_err-write-clause-keeps_records : goal.returns-in_err-write-clause-keeps_records
returns-in_err-write-clause-keeps_records g c clean opened =
    let reported = err_from_is_err_and c.from_residual-in_err-write.result c.from_residual-in_err-write.ensures.1 in
    let mid : HasCleanDisk (state g.S.Store c.planned.new.conn) = omega (arith, clean, c.write.ensures.crash.clean) in
    let kept = c.in_err-write.ensures.keeps_records clean opened in
    rw reported.1 (λ d holds. kept d (same_holds g.S.Store c.args.conn.now c.planned.new.conn d holds (c.in_ok-read.ensures.read_only.unchanged mid holds.schema)))

pub returns-in_err-write-clause-crash : goal.returns-in_err-write-clause-crash
returns-in_err-write-clause-crash g c = survives_then (state g.S.Store c.args.conn.now) (state g.S.Store c.planned.new.conn) (state g.S.Store c.write.new.conn) _ _ _ (λ _ _ other s desk counted within. absurd (other desk.holds.schema)) (λ clean db whole s desk counted within.
    let mid : HasCleanDisk (state g.S.Store c.planned.new.conn) = omega (arith, clean, c.write.ensures.crash.clean) in
    let first = desk_after c.in_ok-read.ensures.read_only mid desk in
    let plan = c.in_ok-read.ensures.answered mid s desk counted within in
    let a = act_of c.args.asked c.args.number c.args.user.now in
    (replied (reply_of c.args.asked c.args.number c.in_ok-read.read), after s a, plan.steps, whole s c.args.user.now first plan.allowed (judged_written _ s _ a _ c.in_ok-read.prepared plan))) c.planned.ensures.read_only.commits_nothing c.write.ensures.crash

pub returns-clause-crash : goal.returns-clause-crash
returns-clause-crash g c = survives_then (state g.S.Store c.args.conn.now) (state g.S.Store c.planned.new.conn) (state g.S.Store c.write.new.conn) _ _ _ (λ _ _ other s desk counted within. absurd (other desk.holds.schema)) (λ clean db whole s desk counted within.
    let mid : HasCleanDisk (state g.S.Store c.planned.new.conn) = omega (arith, clean, c.write.ensures.crash.clean) in
    let first = desk_after c.in_ok-read.ensures.read_only mid desk in
    let plan = c.in_ok-read.ensures.answered mid s desk counted within in
    let a = act_of c.args.asked c.args.number c.args.user.now in
    (replied (reply_of c.args.asked c.args.number c.in_ok-read.read), after s a, plan.steps, whole s c.args.user.now first plan.allowed (judged_written _ s _ a _ c.in_ok-read.prepared plan))) c.planned.ensures.read_only.commits_nothing c.write.ensures.crash

pub returns-clause-answered : goal.returns-clause-answered
returns-clause-answered g c clean s desk counted within =
    let mid : HasCleanDisk (state g.S.Store c.planned.new.conn) = omega (arith, clean, c.write.ensures.crash.clean) in
    let first = desk_after c.in_ok-read.ensures.read_only mid desk in
    let plan = c.in_ok-read.ensures.answered mid s desk counted within in
    let a = act_of c.args.asked c.args.number c.args.user.now in
    let limits = c.requires.within in
    let reachable = c.commands_stay_within_limits.ensures c.args.counts.now.limits s (after s a) (command_of c.args.asked c.args.number c.args.user.now) (replied (reply_of c.args.asked c.args.number c.in_ok-read.read)) limits.sentences limits.moves desk.reachable plan.steps in
    record {
      next = after s a;
      steps = plan.steps;
      desk = c.in_ok-write.ensures.made clean s c.args.user.now first plan.allowed reachable (judged_written _ s _ a _ c.in_ok-read.prepared plan);
      totals = plan.prepared.stand;
      batches = same_batches c.args.asked s c.args.number c.args.user.now;
      sentences = same_sentences c.args.asked s c.args.number c.args.user.now;
      moves = length-append s.moves (move_of s a ∷ []);
    }

pub returns-in_err-read-clause-fails : goal.returns-in_err-read-clause-fails
returns-in_err-read-clause-fails g c clean unlimited s desk counted within bad =
    let reported = err_from_is_err_and c.from_residual.result c.from_residual.ensures.1 in
    let failed : c.planned.result ≡ Err NotADesk = let was = c.in_err-read.was in let one = reported.1 in let two = reported.2 in cc in
    c.planned.ensures.fails clean unlimited s desk counted c.requires.within within failed

pub returns-in_err-write-clause-fails : goal.returns-in_err-write-clause-fails
returns-in_err-write-clause-fails g c clean unlimited s desk counted within bad =
    let reported = err_from_is_err_and c.from_residual-in_err-write.result c.from_residual-in_err-write.ensures.1 in
    let failed : c.write.result ≡ Err NotADesk = let was = c.in_err-write.was in let one = reported.1 in let two = reported.2 in cc in
    let mid : HasCleanDisk (state g.S.Store c.planned.new.conn) = omega (arith, clean, c.write.ensures.crash.clean) in
    let first = desk_after c.in_ok-read.ensures.read_only mid desk in
    let plan = c.in_ok-read.ensures.answered mid s desk counted within in
    let a = act_of c.args.asked c.args.number c.args.user.now in
    c.write.ensures.fails clean (c.planned.ensures.read_only.commits_nothing.limit ∙ unlimited) s c.args.user.now first plan.allowed (judged_written _ s _ a _ c.in_ok-read.prepared plan) failed

pub returns-in_err-read-clause-cause : goal.returns-in_err-read-clause-cause
returns-in_err-read-clause-cause g c good clean unlimited s desk counted within bad =
    let reported = err_from_is_err_and c.from_residual.result c.from_residual.ensures.1 in
    let failed : c.planned.result ≡ Err Device = let was = c.in_err-read.was in let one = reported.1 in let two = reported.2 in cc in
    never_reported c.planned.result failed (c.planned.ensures.cause good clean unlimited desk.holds.schema)

pub returns-in_err-write-clause-cause : goal.returns-in_err-write-clause-cause
returns-in_err-write-clause-cause g c good clean unlimited s desk counted within bad =
    let reported = err_from_is_err_and c.from_residual-in_err-write.result c.from_residual-in_err-write.ensures.1 in
    let failed : c.write.result ≡ Err Device = let was = c.in_err-write.was in let one = reported.1 in let two = reported.2 in cc in
    let mid : HasCleanDisk (state g.S.Store c.planned.new.conn) = omega (arith, clean, c.write.ensures.crash.clean) in
    let here = faultless_next (state g.S.Store c.args.conn.now) (state g.S.Store c.planned.new.conn) (state g.S.Store c.write.new.conn) good c.planned.ensures.read_only.commits_nothing mid c.write.ensures.crash.counts in
    let first = desk_after c.in_ok-read.ensures.read_only mid desk in
    let plan = c.in_ok-read.ensures.answered mid s desk counted within in
    let a = act_of c.args.asked c.args.number c.args.user.now in
    c.write.ensures.cause here clean (c.planned.ensures.read_only.commits_nothing.limit ∙ unlimited) s first c.args.user.now plan.allowed (judged_written _ s _ a _ c.in_ok-read.prepared plan) failed
