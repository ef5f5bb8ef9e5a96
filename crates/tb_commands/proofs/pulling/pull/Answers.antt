use Rattle.std.proofs.Common.{◌≡◌, Err, rules, subst, sym}
use Rattle.std.proofs.lemmas.Result.{err_from_is_err_and}
use Rattle.tb_core.specs.declared.refusals.Fault.TheVariants.{Device, Refused, NotADesk}
use Rattle.tb_core.specs.Commands.{Reply, pull, pulled_out}
use Rattle.tb_commands.specs.Working.{IsDone}
use Rattle.tb_commands.proofs.pulling.pull.Goals as goal

pub returns-clause-answered : goal.returns-clause-answered
returns-clause-answered g c clean s desk counted within =
    let number : c.from.result ≡ c.args.number = search rules in
    let words : c.from-2.result ≡ c.in_ok-read.read.words = search rules in
    subst (λ (q : Reply). IsDone g.S.Store c.args.counts.now.limits s (pull c.args.number c.args.user.now) q c.done.new.conn c.in_ok-read.totals) (λ j. pulled_out (record { sentence = sym number j; words = sym words j })) (c.in_ok-read.ensures.answered clean s desk counted within)

pub returns-in_err-read-clause-refused : goal.returns-in_err-read-clause-refused
returns-in_err-read-clause-refused g c clean r is s desk counted within =
    let reported = err_from_is_err_and c.from_residual.result c.from_residual.ensures.1 in
    let failed : c.done.result ≡ Err (Refused r) = let was = c.in_err-read.was in let one = reported.1 in let two = reported.2 in cc in
    c.done.ensures.refused clean r failed s desk counted within

pub returns-in_err-read-clause-fails : goal.returns-in_err-read-clause-fails
returns-in_err-read-clause-fails g c clean unlimited s desk counted within bad =
    let reported = err_from_is_err_and c.from_residual.result c.from_residual.ensures.1 in
    let failed : c.done.result ≡ Err NotADesk = let was = c.in_err-read.was in let one = reported.1 in let two = reported.2 in cc in
    c.done.ensures.fails clean unlimited s desk counted within failed

pub returns-in_err-read-clause-cause : goal.returns-in_err-read-clause-cause
returns-in_err-read-clause-cause g c good clean unlimited s desk counted within bad =
    let reported = err_from_is_err_and c.from_residual.result c.from_residual.ensures.1 in
    let failed : c.done.result ≡ Err Device = let was = c.in_err-read.was in let one = reported.1 in let two = reported.2 in cc in
    c.done.ensures.cause good clean unlimited s desk counted within failed

pub returns-in_err-read-clause-keeps_records : goal.returns-in_err-read-clause-keeps_records
returns-in_err-read-clause-keeps_records g c clean opened =
    let reported = err_from_is_err_and c.from_residual.result c.from_residual.ensures.1 in
    rw reported.1 (c.in_err-read.ensures.keeps_records clean opened)
