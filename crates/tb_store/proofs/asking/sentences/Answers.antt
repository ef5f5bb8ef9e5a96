use Rattle.std.proofs.Common.{◌≡◌, Err, subst, ◌∙◌}
use Rattle.std.proofs.lemmas.Result.{err_from_is_err_and}
use Rattle.tb_core.specs.declared.refusals.Fault.TheVariants.{NotADesk}
use Rattle.tb_reads.proofs.Shown.{if_ok}
use Rattle.tb_refine.specs.Finding.{HasNumber}
use Rattle.tb_refine.proofs.Unchanged.{desk_after}
use Rattle.tb_reads.proofs.ReadOnly.{read_then, read_on, read_failed, read_none, was_clean}
use Rattle.tb_store.proofs.asking.sentences.Goals as goal

pub returns-clause-answered : goal.returns-clause-answered
returns-clause-answered g c clean = if_ok c.list_sentences.result (c.list_sentences.ensures.answered clean) (λ v reported s desk.
    let mid = was_clean c.list_sentences.ensures.read.read_only clean in
    let found = subst (HasNumber s c.args.name.now) c.in_ok-number.ensures.number (c.in_ok-found.ensures.answered mid s desk) in
    (c.in_ok-number.number, found, reported s (desk_after c.in_ok-found.ensures.read.read_only mid desk)))

pub returns-in_err-found-clause-fails : goal.returns-in_err-found-clause-fails
returns-in_err-found-clause-fails g c clean unlimited s desk bad =
    let reported = err_from_is_err_and c.from_residual.result c.from_residual.ensures.1 in
    let failed : c.batch_number.result ≡ Err NotADesk = let was = c.in_err-found.was in let one = reported.1 in let two = reported.2 in cc in
    c.batch_number.ensures.read.fails clean unlimited s desk failed

pub returns-clause-fails : goal.returns-clause-fails
returns-clause-fails g c clean unlimited s desk bad =
    let mid = was_clean c.list_sentences.ensures.read.read_only clean in
    let still = desk_after c.in_ok-found.ensures.read.read_only mid desk in
    c.list_sentences.ensures.read.fails clean (c.batch_number.ensures.read.read_only.commits_nothing.limit ∙ unlimited) s still bad

pub returns-then-not-good_name-clause-read_only : goal.returns-then-not-good_name-clause-read_only
returns-then-not-good_name-clause-read_only g c = read_none

pub returns-in_err-found-clause-read_only : goal.returns-in_err-found-clause-read_only
returns-in_err-found-clause-read_only g c = read_failed c.from_residual.result _ c.from_residual.ensures.1 c.batch_number.ensures.read.read_only

pub returns-in_err-number-clause-read_only : goal.returns-in_err-number-clause-read_only
returns-in_err-number-clause-read_only g c = read_on _ c.in_ok-found.ensures.read.read_only

pub returns-clause-read_only : goal.returns-clause-read_only
returns-clause-read_only g c = read_then c.in_ok-found.ensures.read.read_only c.list_sentences.ensures.read.read_only
