use Rattle.std.proofs.Common.{◌≡◌, Option, option_map, subst, Err, ◌-◌, ◌∙◌}
use Rattle.std.proofs.lemmas.Result.{err_from_is_err_and}
use Rattle.tb_core.specs.declared.refusals.Fault.TheVariants.{Refused, NotADesk}
use Rattle.tb_core.specs.Acts.{stepping, after}
use Rattle.tb_core.specs.Commands.{event_on, replied, reply_to}
use Rattle.tb_core.specs.Found.{FindsBatch}
use Rattle.tb_reads.proofs.Shown.{if_ok}
use Rattle.tb_commands.specs.declared.finding.BatchRead.{BatchRead}
use Rattle.tb_commands.specs.Stepping.{seen_of}
use Rattle.tb_refine.proofs.Unchanged.{second_clear, desk_after}
use Rattle.tb_commands.proofs.Stepped.{planned_event, event_fits}
use Rattle.tb_reads.proofs.ReadOnly.{read_then, read_on, read_failed, was_clean}
use Rattle.tb_commands.proofs.stepping.planned.Goals as goal

pub returns-in_err-batch-clause-refused : goal.returns-in_err-batch-clause-refused
returns-in_err-batch-clause-refused g c clean r is s desk counted =
    let reported = err_from_is_err_and c.from_residual-in_err-batch.result c.from_residual-in_err-batch.ensures.1 in
    let failed : c.judge.result ≡ Err (Refused r) = let was = c.in_err-batch.was in let one = reported.1 in let two = reported.2 in cc in (
      c.judge.ensures.refused r failed s desk.reachable.reached (c.in_ok-found.ensures.answered clean s desk) counted.moves,
      desk_after c.in_ok-found.ensures.read.read_only clean desk,
    )

pub returns-clause-answered : goal.returns-clause-answered
returns-clause-answered g c clean = if_ok c.plan.result c.plan.ensures.planned (λ p reported s desk counted.
    let mid = was_clean c.find_work.ensures.read.read_only clean in
    let found = c.in_ok-found.ensures.answered mid s desk in
    let first = desk_after c.in_ok-found.ensures.read.read_only mid desk in
    let here = subst (λ (o : Option BatchRead). FindsBatch s c.args.asked.now.name.now (option_map seen_of o)) c.in_ok-batch.ensures.found.0 found in
    let judged = c.in_ok-batch.ensures.accepted s desk.reachable.reached found counted.moves in
    planned_event c.args.counts.now.limits s c.args.counts.now c.args.asked.now.name.now c.args.asked.now.event c.args.asked.now.user.now c.in_ok-batch.batch c.in_ok-batch.makes c.in_ok-sums.sums p desk.reachable.reached counted here c.in_ok-batch.ensures.found.1
    (c.in_ok-sums.ensures.answered clean s first) judged (reported s))

pub returns-in_err-found-clause-fails : goal.returns-in_err-found-clause-fails
returns-in_err-found-clause-fails g c clean unlimited s desk counted within bad =
    let reported = err_from_is_err_and c.from_residual.result c.from_residual.ensures.1 in
    let failed : c.find_batch.result ≡ Err NotADesk = let was = c.in_err-found.was in let one = reported.1 in let two = reported.2 in cc in
    c.find_batch.ensures.read.fails clean unlimited s desk failed

pub returns-in_err-batch-clause-fails : goal.returns-in_err-batch-clause-fails
returns-in_err-batch-clause-fails g c clean unlimited s desk counted within bad =
    let reported = err_from_is_err_and c.from_residual-in_err-batch.result c.from_residual-in_err-batch.ensures.1 in
    let failed : c.judge.result ≡ Err NotADesk = let was = c.in_err-batch.was in let one = reported.1 in let two = reported.2 in cc in
    c.judge.ensures.fails s desk.reachable.reached (c.in_ok-found.ensures.answered clean s desk) counted.moves failed

pub returns-in_err-sums-clause-fails : goal.returns-in_err-sums-clause-fails
returns-in_err-sums-clause-fails g c clean unlimited s desk counted within bad =
    let reported = err_from_is_err_and c.from_residual-in_err-sums.result c.from_residual-in_err-sums.ensures.1 in
    let failed : c.find_work.result ≡ Err NotADesk = let was = c.in_err-sums.was in let one = reported.1 in let two = reported.2 in cc in
    let mid = was_clean c.find_work.ensures.read.read_only clean in
    let first = desk_after c.in_ok-found.ensures.read.read_only mid desk in
    c.find_work.ensures.read.fails clean (c.find_batch.ensures.read.read_only.commits_nothing.limit ∙ unlimited) s first failed

pub returns-clause-fails : goal.returns-clause-fails
returns-clause-fails g c clean unlimited s desk counted within bad =
    let event = c.args.asked.now.event in
    let user = c.args.asked.now.user.now in
    let limits = c.args.counts.now.limits in
    let mid = was_clean c.find_work.ensures.read.read_only clean in
    let found = c.in_ok-found.ensures.answered mid s desk in
    let first = desk_after c.in_ok-found.ensures.read.read_only mid desk in
    let here = subst (λ (o : Option BatchRead). FindsBatch s c.args.asked.now.name.now (option_map seen_of o)) c.in_ok-batch.ensures.found.0 found in
    let judged = c.in_ok-batch.ensures.accepted s desk.reachable.reached found counted.moves in
    let act = stepping (c.in_ok-batch.batch.number - 1) event user in
    let next = c.commands_stay_within_limits.ensures limits s (after s act) (event_on c.args.asked.now.name.now event user) (replied (reply_to s act)) within.sentences within.moves desk.reachable judged.1 in
    event_fits s c.args.counts.now c.args.asked.now.name.now event user c.in_ok-batch.batch c.in_ok-sums.sums desk.reachable counted here (c.in_ok-sums.ensures.answered clean s first) judged.0 next
    (λ place b reachable allowed further known there at st n w. c.plan.ensures.fails s place b reachable allowed further known there at st n w bad)

pub returns-in_err-sums-clause-cause : goal.returns-in_err-sums-clause-cause
returns-in_err-sums-clause-cause g c =
    second_clear c.from_residual-in_err-sums.result c.in_err-sums.field-0.0 c.from_residual-in_err-sums.ensures.1 c.in_ok-found.ensures.read.read_only c.find_work.ensures.read.read_only c.in_err-sums.ensures.read.cause

pub returns-in_err-found-clause-read_only : goal.returns-in_err-found-clause-read_only
returns-in_err-found-clause-read_only g c = read_failed c.from_residual.result _ c.from_residual.ensures.1 c.find_batch.ensures.read.read_only

pub returns-in_err-batch-clause-read_only : goal.returns-in_err-batch-clause-read_only
returns-in_err-batch-clause-read_only g c = read_on _ c.in_ok-found.ensures.read.read_only

pub returns-in_err-sums-clause-read_only : goal.returns-in_err-sums-clause-read_only
returns-in_err-sums-clause-read_only g c = read_failed c.from_residual-in_err-sums.result _ c.from_residual-in_err-sums.ensures.1 (read_then c.in_ok-found.ensures.read.read_only c.find_work.ensures.read.read_only)

pub returns-clause-read_only : goal.returns-clause-read_only
returns-clause-read_only g c = read_on _ (read_then c.in_ok-found.ensures.read.read_only c.in_ok-sums.ensures.read.read_only)
