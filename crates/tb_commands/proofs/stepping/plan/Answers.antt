use Rattle.std.proofs.Common.{◌≡◌, ◌+◌, length, Err, ap, ◌∙◌, arith, rules}
use Rattle.std.proofs.lemmas.Result.{err_from_is_err_and}
use Rattle.tb_core.specs.declared.refusals.Fault.TheVariants.{NotADesk}
use Rattle.tb_core.specs.Acts.{stepping, with_worker}
use Rattle.tb_core.specs.Commands.{moved_on}
use Rattle.tb_refine.specs.Numbers.{state_number}
use Rattle.tb_refine.proofs.Faultless.{move_left}
use Rattle.tb_commands.proofs.Stepped.{event_moves}
use Rattle.tb_commands.proofs.stepping.plan.Goals as goal

pub returns-clause-planned : goal.returns-clause-planned
returns-clause-planned c s place b reached allowed counted there at st who makes n w =
    let event = c.args.event in
    let user = c.args.user.now in
    let no : c.in_ok-next_move.field-0 ≡ length s.moves + 1 = c.in_ok-next_move.ensures.next.0 ∙ ap (λ k. k + 1) counted.moves in
    let step = c.in_ok-step.ensures.step ∙ event_moves s place event user b c.args.found c.args.sums c.in_ok-next_move.field-0 there no at st n w in
    let number : c.from.result ≡ c.args.found.number = search rules in
    let sentences : c.from-2.result ≡ c.args.sums.sentences = search rules in
    let words : c.from-3.result ≡ c.args.sums.words = search rules in
    record {
      batch = b;
      there = there;
      number = at;
      in_state = c.number_of_state.ensures ∙ ap state_number c.target-2.ensures;
      worker = c.in_ok-worker.ensures.value ∙ (λ j. with_worker (makes j) user (who j));
      prepared = c.in_ok-prepared.ensures.prepared s (stepping place event user) reached allowed counted step;
      reply = λ j. moved_on (record { batch = (number ∙ at) j; state = c.target.ensures j; sentences = (sentences ∙ n) j; words = (words ∙ w) j });
    }

pub returns-in_err-next_move-clause-fails : goal.returns-in_err-next_move-clause-fails
returns-in_err-next_move-clause-fails c s place b reachable allowed next counted there at st n w bad =
    let reported = err_from_is_err_and c.from_residual.result c.from_residual.ensures.1 in
    let failed : c.next_move.result ≡ Err NotADesk = let was = c.in_err-next_move.was in let one = reported.1 in let two = reported.2 in cc in
    c.next_move.ensures.fails (move_left s (stepping place c.args.event c.args.user.now) c.args.counts.now.moves next counted.moves) failed

pub returns-in_err-step-clause-fails : goal.returns-in_err-step-clause-fails
returns-in_err-step-clause-fails c s place b reachable allowed next counted there at st n w bad =
    let reported = err_from_is_err_and c.from_residual-in_err-step.result c.from_residual-in_err-step.ensures.1 in
    let failed : c.event_step.result ≡ Err NotADesk = let was = c.in_err-step.was in let one = reported.1 in let two = reported.2 in cc in
    c.event_step.ensures.fails failed

pub returns-in_err-prepared-clause-fails : goal.returns-in_err-prepared-clause-fails
returns-in_err-prepared-clause-fails c s place b reachable allowed next counted there at st n w bad =
    let event = c.args.event in
    let user = c.args.user.now in
    let reported = err_from_is_err_and c.from_residual-in_err-prepared.result c.from_residual-in_err-prepared.ensures.1 in
    let failed : c.prepare.result ≡ Err NotADesk = let was = c.in_err-prepared.was in let one = reported.1 in let two = reported.2 in cc in
    let no : c.in_ok-next_move.field-0 ≡ length s.moves + 1 = c.in_ok-next_move.ensures.next.0 ∙ ap (λ k. k + 1) counted.moves in
    let step = c.in_ok-step.ensures.step ∙ event_moves s place event user b c.args.found c.args.sums c.in_ok-next_move.field-0 there no at st n w in
    c.prepare.ensures.fails s (stepping place event user) reachable allowed next counted step failed

pub returns-in_err-worker-clause-fails : goal.returns-in_err-worker-clause-fails
returns-in_err-worker-clause-fails c s place b reachable allowed next counted there at st n w bad =
    let reported = err_from_is_err_and c.from_residual-in_err-worker.result c.from_residual-in_err-worker.ensures.1 in
    let failed : c.worker_after.result ≡ Err NotADesk = let was = c.in_err-worker.was in let one = reported.1 in let two = reported.2 in cc in
    c.worker_after.ensures.fails failed

pub returns-in_err-next_move-clause-no_move_left : goal.returns-in_err-next_move-clause-no_move_left
returns-in_err-next_move-clause-no_move_left c past =
    let reported = err_from_is_err_and c.from_residual.result c.from_residual.ensures.1 in
    let fault = c.in_err-next_move.ensures.fault in
    let one = reported.1 in
    let two = reported.2 in
    cc

pub returns-in_err-step-clause-no_move_left : goal.returns-in_err-step-clause-no_move_left
returns-in_err-step-clause-no_move_left c past = let next = c.in_ok-next_move.ensures.next in absurd (omega (arith, past, next.0, next.1))

pub returns-in_err-prepared-clause-no_move_left : goal.returns-in_err-prepared-clause-no_move_left
returns-in_err-prepared-clause-no_move_left c past = let next = c.in_ok-next_move.ensures.next in absurd (omega (arith, past, next.0, next.1))

pub returns-in_err-worker-clause-no_move_left : goal.returns-in_err-worker-clause-no_move_left
returns-in_err-worker-clause-no_move_left c past = let next = c.in_ok-next_move.ensures.next in absurd (omega (arith, past, next.0, next.1))

pub returns-clause-no_move_left : goal.returns-clause-no_move_left
returns-clause-no_move_left c past = let next = c.in_ok-next_move.ensures.next in absurd (omega (arith, past, next.0, next.1))
