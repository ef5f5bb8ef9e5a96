use Rattle.std.proofs.Common.{◌≡◌, ◌+◌, length, Err, ap, ◌∙◌, arith, rules, string_bytes}
use Rattle.std.proofs.lemmas.Result.{err_from_is_err_and}
use Rattle.tb_core.specs.declared.refusals.Fault.TheVariants.{NotADesk}
use Rattle.tb_commands.specs.Pulling.{act_of, sentence_move}
use Rattle.tb_refine.proofs.Faultless.{move_left}
use Rattle.tb_reads.proofs.Shown.{if_ok}
use Rattle.tb_commands.proofs.Pulled.{moves_as}
use Rattle.tb_commands.proofs.pulling.plan.Goals as goal

pub returns-clause-planned : goal.returns-clause-planned
returns-clause-planned c = if_ok c.prepare.result c.prepare.ensures.prepared (λ r plans s x reached allowed counted there read.
    let user = c.args.user.now in
    let f = c.args.read.now in
    let n = c.args.number in
    let no : c.in_ok-no.no ≡ length s.moves + 1 = c.in_ok-no.ensures.next.0 ∙ ap (λ k. k + 1) counted.moves in
    let who : string_bytes c.in_ok-who.who ≡ user = search rules in
    let step = c.move_by.ensures ∙ ap (sentence_move c.args.asked c.in_ok-no.no n f) who ∙ moves_as s n user f x c.requires there read c.args.asked c.in_ok-no.no no in
    plans s (act_of c.args.asked n user) reached allowed counted step)

pub returns-in_err-no-clause-fails : goal.returns-in_err-no-clause-fails
returns-in_err-no-clause-fails c s x reachable allowed next counted there read bad =
    let reported = err_from_is_err_and c.from_residual.result c.from_residual.ensures.1 in
    let failed : c.next_move.result ≡ Err NotADesk = let was = c.in_err-no.was in let one = reported.1 in let two = reported.2 in cc in
    c.next_move.ensures.fails (move_left s (act_of c.args.asked c.args.number c.args.user.now) c.args.counts.now.moves next counted.moves) failed

pub returns-clause-fails : goal.returns-clause-fails
returns-clause-fails c s x reachable allowed next counted there read bad =
    let user = c.args.user.now in
    let f = c.args.read.now in
    let n = c.args.number in
    let no : c.in_ok-no.no ≡ length s.moves + 1 = c.in_ok-no.ensures.next.0 ∙ ap (λ k. k + 1) counted.moves in
    let who : string_bytes c.in_ok-who.who ≡ user = search rules in
    let step = c.move_by.ensures ∙ ap (sentence_move c.args.asked c.in_ok-no.no n f) who ∙ moves_as s n user f x c.requires there read c.args.asked c.in_ok-no.no no in
    c.prepare.ensures.fails s (act_of c.args.asked n user) reachable allowed next counted step bad

pub returns-in_err-no-clause-no_move_left : goal.returns-in_err-no-clause-no_move_left
returns-in_err-no-clause-no_move_left c past =
    let reported = err_from_is_err_and c.from_residual.result c.from_residual.ensures.1 in
    let fault = c.in_err-no.ensures.fault in
    let one = reported.1 in
    let two = reported.2 in
    cc

pub returns-in_err-who-clause-no_move_left : goal.returns-in_err-who-clause-no_move_left
returns-in_err-who-clause-no_move_left c past = let next = c.in_ok-no.ensures.next in absurd (omega (arith, past, next.0, next.1))

pub returns-clause-no_move_left : goal.returns-clause-no_move_left
returns-clause-no_move_left c past = let next = c.in_ok-no.ensures.next in absurd (omega (arith, past, next.0, next.1))
