use Rattle.std.proofs.Common.{◌≡◌, length, subst, sym, arith, Err, ◌∙◌}
use Rattle.std.proofs.lemmas.Result.{err_from_is_err_and}
use Rattle.sqlite.specs.Held.{state}
use Rattle.sqlite.specs.State.{HasCleanDisk}
use Rattle.sqlite.proofs.StateLemmas.{survives_then, survives_weaker}
use Rattle.tb_core.specs.declared.refusals.Refusal.{Refusal}
use Rattle.tb_core.specs.declared.refusals.Fault.TheVariants.{Device, Refused, NotADesk}
use Rattle.tb_core.specs.Commands.{import_file, refused}
use Rattle.tb_core.specs.Steps.{Steps}
use Rattle.sqlite.specs.Effect.{Database}
use Rattle.tb_tables.specs.Failing.{HasRowids}
use Rattle.tb_tables.proofs.Causes.{handed_on, faultless_next}
use Rattle.tb_refine.proofs.Short.{never_reported}
use Rattle.tb_refine.specs.DeskTables.{tables_of}
use Rattle.tb_refine.specs.Faults.{IsNoDevice}
use Rattle.tb_refine.specs.Room.{HasRoomIfWritten}
use Rattle.tb_import.proofs.Left.{desk_stays}
use Rattle.tb_import.proofs.importing.import.Goals as goal

-- ---- a refusal by the names, and a repeat

pub returns-in_err-found-clause-crash : goal.returns-in_err-found-clause-crash
returns-in_err-found-clause-crash g c = survives_weaker (state g.S.Store c.args.conn.now) (state g.S.Store c.find_name.new.conn) _ _ (λ _ _ none s desk known. absurd (none (tables_of s) desk.holds)) c.find_name.ensures.look.left.commits_nothing

pub returns-in_err-reply-clause-refused : goal.returns-in_err-reply-clause-refused
returns-in_err-reply-clause-refused g c clean r is s desk known =
    let reported = err_from_is_err_and c.from_residual-in_err-reply.result c.from_residual-in_err-reply.ensures.1 in
    let one = reported.1 in
    let two = reported.2 in
    let same : c.in_err-reply.field-0.0 ≡ r = cc in
    let refusal = c.in_err-reply.ensures.refused c.args.known.now.counts.limits s c.args.body.now in
    (subst (λ (q : Refusal). Steps c.args.known.now.counts.limits s (import_file c.args.name.now c.args.user.now c.args.body.now) (refused q) s) same refusal, desk_stays g.S.Store c.args.conn.now c.find_name.new.conn c.in_ok-found.ensures.look.stays clean s desk)

pub returns-in_err-reply-clause-crash : goal.returns-in_err-reply-clause-crash
returns-in_err-reply-clause-crash g c = survives_weaker (state g.S.Store c.args.conn.now) (state g.S.Store c.find_name.new.conn) _ _ (λ _ _ none s desk known. absurd (none (tables_of s) desk.holds)) c.find_name.ensures.look.left.commits_nothing

pub returns-in-Repeat-clause-answered : goal.returns-in-Repeat-clause-answered
returns-in-Repeat-clause-answered g c clean s desk known =
    let repeated = rw c.in-Repeat.is at c.in_ok-reply.ensures.repeated in
    (repeated c.args.known.now.counts.limits s c.args.body.now (c.in_ok-found.ensures.answered clean s desk), desk_stays g.S.Store c.args.conn.now c.find_name.new.conn c.in_ok-found.ensures.look.stays clean s desk)

pub returns-in-Repeat-clause-crash : goal.returns-in-Repeat-clause-crash
returns-in-Repeat-clause-crash g c = survives_weaker (state g.S.Store c.args.conn.now) (state g.S.Store c.find_name.new.conn) _ _ (λ _ _ none s desk known. absurd (none (tables_of s) desk.holds)) c.find_name.ensures.look.left.commits_nothing

-- ---- an import that is no repeat

pub returns-in_err-reply-in-Continue-clause-refused : goal.returns-in_err-reply-in-Continue-clause-refused
returns-in_err-reply-in-Continue-clause-refused g c clean r is s desk known =
    let reported = err_from_is_err_and c.from_residual-in_err-reply-in-Continue.result c.from_residual-in_err-reply-in-Continue.ensures.1 in
    let failed : c.import_new.result ≡ Err (Refused r) = let was = c.in_err-reply-in-Continue.was in let one = reported.1 in let two = reported.2 in cc in
    let mid : HasCleanDisk (state g.S.Store c.find_name.new.conn) = omega (arith, clean, c.import_new.ensures.crash.clean) in
    let here = desk_stays g.S.Store c.args.conn.now c.find_name.new.conn c.in_ok-found.ensures.look.stays mid s desk in
    let found = c.in_ok-found.ensures.answered mid s desk in
    let goes = rw c.in-Continue.is at c.in_ok-reply.ensures.goes in
    c.import_new.ensures.refused clean r failed s here known (goes s c.args.body.now desk.reachable.reached found) found

pub returns-in_err-reply-in-Continue-clause-keeps_records : goal.returns-in_err-reply-in-Continue-clause-keeps_records
returns-in_err-reply-in-Continue-clause-keeps_records g c clean opened =
    let reported = err_from_is_err_and c.from_residual-in_err-reply-in-Continue.result c.from_residual-in_err-reply-in-Continue.ensures.1 in
    let mid : HasCleanDisk (state g.S.Store c.find_name.new.conn) = omega (arith, clean, c.import_new.ensures.crash.clean) in
    let kept = c.in_err-reply-in-Continue.ensures.keeps_records clean opened in
    rw reported.1 (λ d holds. kept d (c.in_ok-found.ensures.look.stays.holds mid d holds))

pub returns-in_err-reply-in-Continue-clause-crash : goal.returns-in_err-reply-in-Continue-clause-crash
returns-in_err-reply-in-Continue-clause-crash g c = survives_then (state g.S.Store c.args.conn.now) (state g.S.Store c.find_name.new.conn) (state g.S.Store c.import_new.new.conn) _ _ _ (λ _ _ none s desk known. absurd (none (tables_of s) desk.holds)) (λ clean db whole s desk known.
    let mid : HasCleanDisk (state g.S.Store c.find_name.new.conn) = omega (arith, clean, c.import_new.ensures.crash.clean) in
    let here = desk_stays g.S.Store c.args.conn.now c.find_name.new.conn c.in_ok-found.ensures.look.stays mid s desk in
    let found = c.in_ok-found.ensures.answered mid s desk in
    let goes = rw c.in-Continue.is at c.in_ok-reply.ensures.goes in
    whole s here known (goes s c.args.body.now desk.reachable.reached found) found) c.find_name.ensures.look.left.commits_nothing c.import_new.ensures.crash

pub returns-in_ok-reply-in-Continue-clause-crash : goal.returns-in_ok-reply-in-Continue-clause-crash
returns-in_ok-reply-in-Continue-clause-crash g c = survives_then (state g.S.Store c.args.conn.now) (state g.S.Store c.find_name.new.conn) (state g.S.Store c.import_new.new.conn) _ _ _ (λ _ _ none s desk known. absurd (none (tables_of s) desk.holds)) (λ clean db whole s desk known.
    let mid : HasCleanDisk (state g.S.Store c.find_name.new.conn) = omega (arith, clean, c.import_new.ensures.crash.clean) in
    let here = desk_stays g.S.Store c.args.conn.now c.find_name.new.conn c.in_ok-found.ensures.look.stays mid s desk in
    let found = c.in_ok-found.ensures.answered mid s desk in
    let goes = rw c.in-Continue.is at c.in_ok-reply.ensures.goes in
    whole s here known (goes s c.args.body.now desk.reachable.reached found) found) c.find_name.ensures.look.left.commits_nothing c.import_new.ensures.crash

pub returns-in_ok-reply-in-Continue-clause-answered : goal.returns-in_ok-reply-in-Continue-clause-answered
returns-in_ok-reply-in-Continue-clause-answered g c clean s desk known =
    let mid : HasCleanDisk (state g.S.Store c.find_name.new.conn) = omega (arith, clean, c.import_new.ensures.crash.clean) in
    let here = desk_stays g.S.Store c.args.conn.now c.find_name.new.conn c.in_ok-found.ensures.look.stays mid s desk in
    let found = c.in_ok-found.ensures.answered mid s desk in
    let goes = rw c.in-Continue.is at c.in_ok-reply.ensures.goes in
    c.in_ok-reply-in-Continue.ensures.answered clean s here known (goes s c.args.body.now desk.reachable.reached found) found

-- ---- it is a desk

pub returns-in_err-found-clause-fails : goal.returns-in_err-found-clause-fails
returns-in_err-found-clause-fails g c clean unlimited s desk known bad =
    let reported = err_from_is_err_and c.from_residual.result c.from_residual.ensures.1 in
    let failed : c.find_name.result ≡ Err NotADesk = let was = c.in_err-found.was in let one = reported.1 in let two = reported.2 in cc in
    c.find_name.ensures.look.fails clean unlimited s desk failed

pub returns-in_err-reply-clause-fails : goal.returns-in_err-reply-clause-fails
returns-in_err-reply-clause-fails g c clean unlimited s desk known bad =
    let reported = err_from_is_err_and c.from_residual-in_err-reply.result c.from_residual-in_err-reply.ensures.1 in
    let one = reported.1 in
    let two = reported.2 in
    absurd cc

pub returns-in_err-reply-in-Continue-clause-fails : goal.returns-in_err-reply-in-Continue-clause-fails
returns-in_err-reply-in-Continue-clause-fails g c clean unlimited s desk known bad =
    let reported = err_from_is_err_and c.from_residual-in_err-reply-in-Continue.result c.from_residual-in_err-reply-in-Continue.ensures.1 in
    let failed : c.import_new.result ≡ Err NotADesk = let was = c.in_err-reply-in-Continue.was in let one = reported.1 in let two = reported.2 in cc in
    let mid : HasCleanDisk (state g.S.Store c.find_name.new.conn) = omega (arith, clean, c.import_new.ensures.crash.clean) in
    let here = desk_stays g.S.Store c.args.conn.now c.find_name.new.conn c.in_ok-found.ensures.look.stays mid s desk in
    let found = c.in_ok-found.ensures.answered mid s desk in
    let goes = rw c.in-Continue.is at c.in_ok-reply.ensures.goes in
    c.import_new.ensures.fails clean (c.find_name.ensures.look.left.commits_nothing.limit ∙ unlimited) s here known (goes s c.args.body.now desk.reachable.reached found) found failed

-- ---- and of no device

pub returns-in_err-found-clause-cause : goal.returns-in_err-found-clause-cause
returns-in_err-found-clause-cause g c good clean unlimited s desk known room bad =
    never_reported c.from_residual.result bad (handed_on IsNoDevice c.from_residual.result c.in_err-found.field-0.0 c.from_residual.ensures.1 (c.in_err-found.ensures.look.cause good clean unlimited desk.holds.schema))

pub returns-in_err-reply-clause-cause : goal.returns-in_err-reply-clause-cause
returns-in_err-reply-clause-cause g c good clean unlimited s desk known room bad =
    let reported = err_from_is_err_and c.from_residual-in_err-reply.result c.from_residual-in_err-reply.ensures.1 in
    let one = reported.1 in
    let two = reported.2 in
    absurd cc

pub returns-in_err-reply-in-Continue-clause-cause : goal.returns-in_err-reply-in-Continue-clause-cause
returns-in_err-reply-in-Continue-clause-cause g c good clean unlimited s desk known room bad =
    let reported = err_from_is_err_and c.from_residual-in_err-reply-in-Continue.result c.from_residual-in_err-reply-in-Continue.ensures.1 in
    let failed : c.import_new.result ≡ Err Device = let was = c.in_err-reply-in-Continue.was in let one = reported.1 in let two = reported.2 in cc in
    let mid : HasCleanDisk (state g.S.Store c.find_name.new.conn) = omega (arith, clean, c.import_new.ensures.crash.clean) in
    let left = c.find_name.ensures.look.left.commits_nothing in
    let still = faultless_next (state g.S.Store c.args.conn.now) (state g.S.Store c.find_name.new.conn) (state g.S.Store c.import_new.new.conn) good left mid c.import_new.ensures.crash.counts in
    let here = desk_stays g.S.Store c.args.conn.now c.find_name.new.conn c.in_ok-found.ensures.look.stays mid s desk in
    let found = c.in_ok-found.ensures.answered mid s desk in
    let goes = rw c.in-Continue.is at c.in_ok-reply.ensures.goes in
    let sees = c.in_ok-found.ensures.look.stays.sees mid desk.holds.schema in
    let there : HasRoomIfWritten c.args.known.now.counts.limits s (import_file c.args.name.now c.args.user.now c.args.body.now) c.args.body.now (length c.args.body.now) (state g.S.Store c.find_name.new.conn) = λ reply t steps more.
    let has = room reply t steps more in
    (has.0, subst (λ (d : Database). HasRowids (length c.args.body.now) (d.trees 5)) (sym sees) has.1) in
    c.import_new.ensures.cause still clean (left.limit ∙ unlimited) s here known (goes s c.args.body.now desk.reachable.reached found) found there failed
