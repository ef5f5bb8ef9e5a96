use Rattle.std.proofs.Common.{◌≡◌, Err, ◌∙◌, arith}
use Rattle.std.proofs.lemmas.Result.{err_from_is_err_and}
use Rattle.sqlite.specs.Held.{state}
use Rattle.sqlite.specs.State.{HasCleanDisk}
use Rattle.tb_core.specs.declared.refusals.Fault.TheVariants.{NotADesk}
use Rattle.tb_tables.proofs.Causes.{faultless_next, handed_on}
use Rattle.tb_refine.specs.Faults.{IsNoDevice}
use Rattle.tb_refine.proofs.Unchanged.{desk_after}
use Rattle.tb_reads.proofs.ReadOnly.{read_then, read_on, read_failed, read_none, was_clean}
use Rattle.tb_store.proofs.exporting.batch.Goals as goal

pub returns-in_err-found-clause-fails : goal.returns-in_err-found-clause-fails
returns-in_err-found-clause-fails g c clean unlimited s desk bad =
    let reported = err_from_is_err_and c.from_residual.result c.from_residual.ensures.1 in
    let failed : c.batch_number.result ≡ Err NotADesk = let was = c.in_err-found.was in let one = reported.1 in let two = reported.2 in cc in
    c.batch_number.ensures.read.fails clean unlimited s desk failed

pub returns-clause-fails : goal.returns-clause-fails
returns-clause-fails g c clean unlimited s desk bad =
    let mid = was_clean c.numbered.ensures.read_only clean in
    let still = desk_after c.in_ok-found.ensures.read.read_only mid desk in
    c.numbered.ensures.fails clean (c.batch_number.ensures.read.read_only.commits_nothing.limit ∙ unlimited) s still bad

pub returns-in_err-found-clause-cause : goal.returns-in_err-found-clause-cause
returns-in_err-found-clause-cause g c good clean unlimited s desk =
    handed_on IsNoDevice c.from_residual.result c.in_err-found.field-0.0 c.from_residual.ensures.1 (c.in_err-found.ensures.read.cause good clean unlimited desk.holds.schema)

pub returns-clause-cause : goal.returns-clause-cause
returns-clause-cause g c good clean unlimited s desk =
    let finding = c.batch_number.ensures.read.read_only.commits_nothing in
    let putting = c.numbered.ensures.read_only.commits_nothing in
    let mid : HasCleanDisk (state g.S.Store c.batch_number.new.conn) = omega (arith, clean, putting.clean) in
    let later = faultless_next (state g.S.Store c.args.conn.now) (state g.S.Store c.batch_number.new.conn) (state g.S.Store c.numbered.new.conn) good finding mid putting.counts in
    let still = desk_after c.in_ok-found.ensures.read.read_only mid desk in
    c.numbered.ensures.cause later clean (finding.limit ∙ unlimited) s still

pub returns-then-not-good_name-clause-read_only : goal.returns-then-not-good_name-clause-read_only
returns-then-not-good_name-clause-read_only g c = read_none

pub returns-in_err-found-clause-read_only : goal.returns-in_err-found-clause-read_only
returns-in_err-found-clause-read_only g c = read_failed c.from_residual.result _ c.from_residual.ensures.1 c.batch_number.ensures.read.read_only

pub returns-in_err-number-clause-read_only : goal.returns-in_err-number-clause-read_only
returns-in_err-number-clause-read_only g c = read_on _ c.in_ok-found.ensures.read.read_only

pub returns-clause-read_only : goal.returns-clause-read_only
returns-clause-read_only g c = read_then c.in_ok-found.ensures.read.read_only c.numbered.ensures.read_only
