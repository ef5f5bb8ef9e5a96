use Rattle.std.proofs.Common.{◌≡◌, ◌<◌, ◌≤◌, Err, ◌∙◌, arith, subst}
use Rattle.std.proofs.lemmas.Result.{err_from_is_err_and}
use Rattle.sqlite.specs.Held.{state}
use Rattle.sqlite.specs.State.{HasCleanDisk}
use Rattle.tb_core.specs.declared.refusals.Fault.TheVariants.{NotADesk}
use Rattle.tb_tables.proofs.Causes.{faultless_next}
use Rattle.tb_reads.proofs.Shown.{if_ok}
use Rattle.tb_refine.specs.Revisions.{HasRevision}
use Rattle.tb_refine.proofs.Unchanged.{desk_after}
use Rattle.tb_refine.proofs.Revised.{has_each}
use Rattle.tb_reads.proofs.ReadOnly.{read_then, read_on, read_failed, was_clean, schema_stays}
use Rattle.tb_store.proofs.asking.revision.Goals as goal

pub returns-clause-answered : goal.returns-clause-answered
returns-clause-answered g c clean = if_ok c.text.result (c.text.ensures.answered clean) (λ t reported s desk x there.
    let still = desk_after c.in_ok-last.ensures.read.read_only (was_clean c.text.ensures.read.read_only clean) desk in
    let is = reported s still x there in
    let same = c.in_ok-counted.ensures.same in
    (is.0, subst (λ n. HasRevision x n is.0) same.0 is.1, is.2))

pub returns-in_err-last-clause-fails : goal.returns-in_err-last-clause-fails
returns-in_err-last-clause-fails g c clean unlimited s desk x there bad =
    let reported = err_from_is_err_and c.from_residual.result c.from_residual.ensures.1 in
    let failed : c.current.result ≡ Err NotADesk = let was = c.in_err-last.was in let one = reported.1 in let two = reported.2 in cc in
    c.current.ensures.read.fails clean unlimited s desk x there failed

pub returns-clause-fails : goal.returns-clause-fails
returns-clause-fails g c clean unlimited s desk x there bad =
    let mid = was_clean c.text.ensures.read.read_only clean in
    let last_is = c.in_ok-last.ensures.answered mid s desk x there in
    let still = desk_after c.in_ok-last.ensures.read.read_only mid desk in
    let same = c.in_ok-counted.ensures.same in
    let above : 0 < c.in_ok-counted.counted = omega (arith, same.0, same.1) in
    let within : c.in_ok-counted.counted ≤ c.in_ok-last.last = omega (arith, same.0, same.2) in
    let each = has_each x c.in_ok-counted.counted c.in_ok-last.last above within last_is in
    c.text.ensures.read.fails clean (c.current.ensures.read.read_only.commits_nothing.limit ∙ unlimited) s still x there each.0 each.1 bad

pub returns-clause-cause : goal.returns-clause-cause
returns-clause-cause g c good clean unlimited has =
    let first = c.current.ensures.read.read_only.commits_nothing in
    let then_ = c.text.ensures.read.read_only.commits_nothing in
    let mid : HasCleanDisk (state g.S.Store c.current.new.conn) = omega (arith, clean, then_.clean) in
    let later = faultless_next (state g.S.Store c.args.conn.now) (state g.S.Store c.current.new.conn) (state g.S.Store c.text.new.conn) good first mid then_.counts in
    c.text.ensures.read.cause later clean (first.limit ∙ unlimited) (schema_stays g.S.Store c.args.conn.now c.current.new.conn (c.in_ok-last.ensures.read.read_only.unchanged mid has) has)

pub returns-in_err-last-clause-read_only : goal.returns-in_err-last-clause-read_only
returns-in_err-last-clause-read_only g c = read_failed c.from_residual.result _ c.from_residual.ensures.1 c.current.ensures.read.read_only

pub returns-in_err-counted-clause-read_only : goal.returns-in_err-counted-clause-read_only
returns-in_err-counted-clause-read_only g c = read_on _ c.in_ok-last.ensures.read.read_only

pub returns-clause-read_only : goal.returns-clause-read_only
returns-clause-read_only g c = read_then c.in_ok-last.ensures.read.read_only c.text.ensures.read.read_only
