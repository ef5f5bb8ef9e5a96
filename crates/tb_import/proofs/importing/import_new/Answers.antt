use Rattle.std.proofs.Common.{List, ℕ, ◌≡◌, ◌+◌, ◌<◌, [], ◌∷◌, length, length-append, map, ap, sym, subst, ◌∙◌, arith, Err}
use Rattle.std.proofs.lemmas.Result.{err_from_is_err_and}
use Rattle.std.proofs.lemmas.List.{length-map}
use Rattle.sqlite.specs.Held.{state}
use Rattle.sqlite.specs.State.{HasCleanDisk}
use Rattle.sqlite.proofs.StateLemmas.{survives_then, survives_weaker}
use Rattle.tb_core.specs.declared.refusals.Fault.TheVariants.{Refused, NotADesk}
use Rattle.tb_core.specs.Acts.{importing, after, new_batch, new_sentence, move_of}
use Rattle.tb_core.specs.declared.limits.Limits.{Limits}
use Rattle.tb_core.specs.Machine.{Machine}
use Rattle.tb_core.specs.Commands.{Reply, import_file, replied, refused, reply_to}
use Rattle.tb_core.specs.Steps.{Steps}
use Rattle.tb_core.specs.Found.{FindsName}
use Rattle.tb_core.specs.Parts.{IsNamedImport}
use Rattle.tb_reads.proofs.Shown.{if_ok}
use Rattle.sqlite.specs.Effect.{Database}
use Rattle.tb_conllu.specs.Text.{text_of}
use Rattle.tb_tables.specs.Failing.{IsShort, HasRowids}
use Rattle.tb_tables.proofs.Causes.{handed_on, faultless_next}
use Rattle.tb_refine.proofs.Short.{never_reported}
use Rattle.tb_import.proofs.Sized.{few, fewer_rowids}
use Rattle.tb_refine.specs.DeskTables.{tables_of}
use Rattle.tb_refine.specs.Faults.{IsNoDevice}
use Rattle.tb_import.proofs.Left.{desk_stays, kept_if}
use Rattle.tb_import.proofs.Meaning.{taking_refused, taking_clear, reported_sentences}
use Rattle.tb_import.proofs.importing.import_new.Goals as goal

-- ---- the body is refused

pub returns-in_err-taken-clause-refused : goal.returns-in_err-taken-clause-refused
returns-in_err-taken-clause-refused g c clean r is s desk known named found =
    let reported = err_from_is_err_and c.from_residual.result c.from_residual.ensures.1 in
    let one = reported.1 in
    let two = reported.2 in
    let same : c.in_err-taken.field-0.0 ≡ Refused r = cc in
    let refusal = taking_refused (λ q. (l : Limits) (t : Machine) (name by : List ℕ) → IsNamedImport t name by c.args.asked.now.body.now → FindsName t name c.args.asked.now.body.now c.args.found → Steps l t (import_file name by c.args.asked.now.body.now) (refused q) t)
    c.in_err-taken.field-0.0 r same c.in_err-taken.ensures.refused in
    (refusal c.args.known.now.counts.limits s c.args.asked.now.name.now c.args.asked.now.user.now named found, desk)

pub returns-in_err-admit-clause-refused : goal.returns-in_err-admit-clause-refused
returns-in_err-admit-clause-refused g c clean r is s desk known named found =
    let reported = err_from_is_err_and c.from_residual-in_err-admit.result c.from_residual-in_err-admit.ensures.1 in
    let failed : c.admit.result ≡ Err (Refused r) = let was = c.in_err-admit.was in let one = reported.1 in let two = reported.2 in cc in
    let taken = c.in_ok-taken.ensures.taken in
    let goes = c.in_ok-taken.ensures.goes s c.args.asked.now.name.now c.args.asked.now.user.now taken.0 named found taken.1 in
    c.admit.ensures.refused clean r failed s c.args.asked.now.name.now c.args.asked.now.user.now c.args.asked.now.body.now taken.0 desk known goes (c.as_slice.ensures.value ∙ taken.2)

pub returns-in_err-admit-clause-crash : goal.returns-in_err-admit-clause-crash
returns-in_err-admit-clause-crash g c = survives_weaker (state g.S.Store c.args.conn.now) (state g.S.Store c.admit.new.conn) _ _ (λ _ _ none s desk known named found. absurd (none (tables_of s) desk.holds)) c.admit.ensures.left.commits_nothing

-- ---- it is written

pub returns-clause-keeps_records : goal.returns-clause-keeps_records
returns-clause-keeps_records g c clean opened =
    let mid : HasCleanDisk (state g.S.Store c.admit.new.conn) = omega (arith, clean, c.write.ensures.crash.clean) in
    kept_if c.write.result (λ kept d holds. kept d (c.in_ok-admit.ensures.stays.holds mid d holds)) (c.write.ensures.keeps_records clean opened)

pub returns-clause-crash : goal.returns-clause-crash
returns-clause-crash g c = survives_then (state g.S.Store c.args.conn.now) (state g.S.Store c.admit.new.conn) (state g.S.Store c.write.new.conn) _ _ _ (λ _ _ none s desk known named found. absurd (none (tables_of s) desk.holds)) (λ clean db whole s desk known named found.
    let mid : HasCleanDisk (state g.S.Store c.admit.new.conn) = omega (arith, clean, c.write.ensures.crash.clean) in
    let here = desk_stays g.S.Store c.args.conn.now c.admit.new.conn c.in_ok-admit.ensures.stays mid s desk in
    let taken = c.in_ok-taken.ensures.taken in
    let bs = taken.0 in
    let goes = c.in_ok-taken.ensures.goes s c.args.asked.now.name.now c.args.asked.now.user.now bs named found taken.1 in
    let allowed = c.in_ok-admit.ensures.accepted mid s c.args.asked.now.name.now c.args.asked.now.user.now c.args.asked.now.body.now bs desk known goes (c.as_slice.ensures.value ∙ taken.2) in
    let act = importing c.args.asked.now.name.now c.args.asked.now.user.now bs in
    (replied (reply_to s act), after s act, allowed.1, whole s bs here known (c.as_slice-2.ensures.value ∙ taken.2) allowed.0)) c.admit.ensures.left.commits_nothing c.write.ensures.crash

pub returns-clause-answered : goal.returns-clause-answered
returns-clause-answered g c clean = if_ok c.write.result (c.write.ensures.answered clean) (λ r reported s desk known named found.
    let mid : HasCleanDisk (state g.S.Store c.admit.new.conn) = omega (arith, clean, c.write.ensures.crash.clean) in
    let here = desk_stays g.S.Store c.args.conn.now c.admit.new.conn c.in_ok-admit.ensures.stays mid s desk in
    let taken = c.in_ok-taken.ensures.taken in
    let bs = taken.0 in
    let name = c.args.asked.now.name.now in
    let user = c.args.asked.now.user.now in
    let goes = c.in_ok-taken.ensures.goes s name user bs named found taken.1 in
    let allowed = c.in_ok-admit.ensures.accepted mid s name user c.args.asked.now.body.now bs desk known goes (c.as_slice.ensures.value ∙ taken.2) in
    let a = importing name user bs in
    let limits = c.requires.within in
    let reachable = c.commands_stay_within_limits.ensures c.args.known.now.counts.limits s (after s a) (import_file name user c.args.asked.now.body.now) (replied (reply_to s a)) limits.sentences limits.moves desk.reachable allowed.1 in
    let done = reported s bs here known (c.as_slice-2.ensures.value ∙ taken.2) allowed.0 reachable in
    record {
      next = after s a;
      steps = subst (λ (q : Reply). Steps c.args.known.now.counts.limits s (import_file name user c.args.asked.now.body.now) (replied q) (after s a)) (sym done.2) allowed.1;
      desk = done.0;
      totals = done.1;
      batches = length-append s.batches (new_batch name ∷ []);
      sentences = length-append s.sentences (map (new_sentence (length s.batches + 1) user) bs) ∙ ap (λ n. length s.sentences + n) (length-map bs (new_sentence (length s.batches + 1) user) ∙ sym (ap reported_sentences done.2));
      moves = length-append s.moves (move_of s a ∷ []);
    })

-- ---- it is a desk

pub returns-in_err-taken-clause-fails : goal.returns-in_err-taken-clause-fails
returns-in_err-taken-clause-fails g c clean unlimited s desk known named found bad =
    let reported = err_from_is_err_and c.from_residual.result c.from_residual.ensures.1 in
    let one = reported.1 in
    let two = reported.2 in
    let same : c.in_err-taken.field-0.0 ≡ NotADesk = cc in
    rw same at c.in_err-taken.ensures.refused

pub returns-in_err-admit-clause-fails : goal.returns-in_err-admit-clause-fails
returns-in_err-admit-clause-fails g c clean unlimited s desk known named found bad =
    let reported = err_from_is_err_and c.from_residual-in_err-admit.result c.from_residual-in_err-admit.ensures.1 in
    let failed : c.admit.result ≡ Err NotADesk = let was = c.in_err-admit.was in let one = reported.1 in let two = reported.2 in cc in
    c.admit.ensures.fails clean unlimited s desk failed

pub returns-clause-fails : goal.returns-clause-fails
returns-clause-fails g c clean unlimited s desk known named found bad =
    let mid : HasCleanDisk (state g.S.Store c.admit.new.conn) = omega (arith, clean, c.write.ensures.crash.clean) in
    let here = desk_stays g.S.Store c.args.conn.now c.admit.new.conn c.in_ok-admit.ensures.stays mid s desk in
    let taken = c.in_ok-taken.ensures.taken in
    let bs = taken.0 in
    let name = c.args.asked.now.name.now in
    let user = c.args.asked.now.user.now in
    let goes = c.in_ok-taken.ensures.goes s name user bs named found taken.1 in
    let allowed = c.in_ok-admit.ensures.accepted mid s name user c.args.asked.now.body.now bs desk known goes (c.as_slice.ensures.value ∙ taken.2) in
    let a = importing name user bs in
    let limits = c.requires.within in
    let reachable = c.commands_stay_within_limits.ensures c.args.known.now.counts.limits s (after s a) (import_file name user c.args.asked.now.body.now) (replied (reply_to s a)) limits.sentences limits.moves desk.reachable allowed.1 in
    c.write.ensures.fails clean (c.admit.ensures.left.commits_nothing.limit ∙ unlimited) s bs here known (c.as_slice-2.ensures.value ∙ taken.2) allowed.0 reachable bad

-- ---- and of no device

pub returns-in_err-taken-clause-cause : goal.returns-in_err-taken-clause-cause
returns-in_err-taken-clause-cause g c good clean unlimited s desk known named found room bad =
    let clear = taking_clear (λ q. (l : Limits) (t : Machine) (name by : List ℕ) → IsNamedImport t name by c.args.asked.now.body.now → FindsName t name c.args.asked.now.body.now c.args.found → Steps l t (import_file name by c.args.asked.now.body.now) (refused q) t)
    c.in_err-taken.field-0.0 c.in_err-taken.ensures.refused in
    never_reported c.from_residual.result bad (handed_on IsNoDevice c.from_residual.result c.in_err-taken.field-0.0 c.from_residual.ensures.1 clear)

pub returns-in_err-admit-clause-cause : goal.returns-in_err-admit-clause-cause
returns-in_err-admit-clause-cause g c good clean unlimited s desk known named found room bad =
    never_reported c.from_residual-in_err-admit.result bad (handed_on IsNoDevice c.from_residual-in_err-admit.result c.in_err-admit.field-0.0 c.from_residual-in_err-admit.ensures.1 (c.in_err-admit.ensures.cause good clean unlimited desk.holds.schema))

pub returns-clause-cause : goal.returns-clause-cause
returns-clause-cause g c good clean unlimited s desk known named found room bad =
    let mid : HasCleanDisk (state g.S.Store c.admit.new.conn) = omega (arith, clean, c.write.ensures.crash.clean) in
    let left = c.admit.ensures.left.commits_nothing in
    let still = faultless_next (state g.S.Store c.args.conn.now) (state g.S.Store c.admit.new.conn) (state g.S.Store c.write.new.conn) good left mid c.write.ensures.crash.counts in
    let here = desk_stays g.S.Store c.args.conn.now c.admit.new.conn c.in_ok-admit.ensures.stays mid s desk in
    let taken = c.in_ok-taken.ensures.taken in
    let bs = taken.0 in
    let name = c.args.asked.now.name.now in
    let user = c.args.asked.now.user.now in
    let goes = c.in_ok-taken.ensures.goes s name user bs named found taken.1 in
    let allowed = c.in_ok-admit.ensures.accepted mid s name user c.args.asked.now.body.now bs desk known goes (c.as_slice.ensures.value ∙ taken.2) in
    let a = importing name user bs in
    let limits = c.requires.within in
    let reachable = c.commands_stay_within_limits.ensures c.args.known.now.counts.limits s (after s a) (import_file name user c.args.asked.now.body.now) (replied (reply_to s a)) limits.sentences limits.moves desk.reachable allowed.1 in
    let longer = length-append s.moves (move_of s a ∷ []) in
    let has = room (reply_to s a) (after s a) allowed.1 (subst (λ k. length s.moves < k) (sym longer) (omega arith)) in
    let text : c.args.asked.now.body.now ≡ text_of bs = taken.1.file.text in
    let size = ap length text in
    let sees = c.in_ok-admit.ensures.stays.sees mid desk.holds.schema in
    let rows = subst (λ (d : Database). HasRowids (length c.args.asked.now.body.now) (d.trees 5)) (sym sees) has.1 in
    let rowids = fewer_rowids (length c.args.asked.now.body.now) (length bs) _ (omega (arith, size, few bs)) rows in
    c.write.ensures.cause still clean (left.limit ∙ unlimited) s here bs known (c.as_slice-2.ensures.value ∙ taken.2) allowed.0 reachable (subst IsShort text has.0) rowids bad
