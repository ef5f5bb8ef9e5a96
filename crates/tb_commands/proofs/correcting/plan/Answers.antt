use Rattle.tb_commands.proofs.Revised.{few_revisions}
use Rattle.tb_refine.proofs.Bounded.{narrow}
use Rattle.tb_core.proofs.Stored.{few_in}
use Rattle.tb_core.specs.declared.refusals.Fault.TheVariants.{NotADesk}
use Rattle.std.proofs.lemmas.Result.{err_from_is_err_and}
use Rattle.std.proofs.Common.{◌≡◌, ◌+◌, ◌-◌, length, ap, ◌∙◌, arith, rules, string_bytes, Err, ◌∷◌, [], length-append}
use Rattle.tb_conllu.specs.Words.{words_of}
use Rattle.tb_core.specs.Acts.{correcting, move_of}
use Rattle.tb_commands.specs.Correcting.{correction_move}
use Rattle.tb_commands.proofs.Corrected.{correction_is}
use Rattle.tb_commands.proofs.correcting.plan.Goals as goal

pub returns-clause-planned : goal.returns-clause-planned
returns-clause-planned c s x reached allowed counted there read spelled =
    let user = c.args.user.now in
    let b = c.args.passage.now.block in
    let n = c.args.number in
    let above = c.requires in
    let at : n ≡ (n - 1) + 1 = omega (arith, above) in
    let sized : c.in_ok-new_words.new_words ≡ words_of b = search rules in
    let no : c.in_ok-no.no ≡ length s.moves + 1 = c.in_ok-no.ensures.next.0 ∙ ap (λ k. k + 1) counted.moves in
    let who : string_bytes c.in_ok-who.who ≡ user = search rules in
    let act = correcting (n - 1) user b in
    let step = c.move_by.ensures ∙ ap (correction_move c.in_ok-no.no n c.args.read.now c.in_ok-new_words.new_words) who ∙ correction_is s (n - 1) x c.args.read.now c.in_ok-no.no n c.in_ok-new_words.new_words user b no at there read sized in
    let prepared = c.in_ok-prepared.ensures.prepared s act reached allowed counted step in
    record {
      sentence = x;
      made = record { there = there; next = c.in_ok-rev.ensures.next ∙ ap (λ k. k + 1) read.sentence.rev; counted = sized; reported = spelled };
      change = record { totals = c.in_ok-prepared.prepared.totals; stand = prepared.stand; change = prepared.change };
      totals = prepared.stand;
    }

pub returns-in_err-rev-clause-fails : goal.returns-in_err-rev-clause-fails
returns-in_err-rev-clause-fails c s x reachable allowed next counted there read bad =
    let reported = err_from_is_err_and c.from_residual.result c.from_residual.ensures.1 in
    let failed : c.next_revision.result ≡ Err NotADesk = let was = c.in_err-rev.was in let one = reported.1 in let two = reported.2 in cc in
    let few = few_revisions s (c.args.number - 1) x reachable.reached there in
    let moves = next.moves in
    let size = length-append s.moves (move_of s (correcting (c.args.number - 1) c.args.user.now c.args.passage.now.block) ∷ []) in
    let is = read.sentence.rev in
    c.next_revision.ensures.fails (narrow (c.args.read.now.sentence.rev + 1) (omega (arith, is, few, moves, size))) failed

pub returns-in_err-new_words-clause-fails : goal.returns-in_err-new_words-clause-fails
returns-in_err-new_words-clause-fails c s x reachable allowed next counted there read bad =
    let reported = err_from_is_err_and c.from_residual-in_err-new_words.result c.from_residual-in_err-new_words.ensures.1 in
    let failed : c.narrow.result ≡ Err NotADesk = let was = c.in_err-new_words.was in let one = reported.1 in let two = reported.2 in cc in
    let few = few_in c.args.passage.now.block allowed.lawful in
    let sized = c.words.ensures in
    c.narrow.ensures.fails (narrow c.words.result (omega (arith, sized, few))) failed

pub returns-in_err-no-clause-fails : goal.returns-in_err-no-clause-fails
returns-in_err-no-clause-fails c s x reachable allowed next counted there read bad =
    let reported = err_from_is_err_and c.from_residual-in_err-no.result c.from_residual-in_err-no.ensures.1 in
    let failed : c.next_move.result ≡ Err NotADesk = let was = c.in_err-no.was in let one = reported.1 in let two = reported.2 in cc in
    let moves = next.moves in
    let size = length-append s.moves (move_of s (correcting (c.args.number - 1) c.args.user.now c.args.passage.now.block) ∷ []) in
    let now = counted.moves in
    c.next_move.ensures.fails (omega (arith, now, moves, size)) failed

pub returns-in_err-prepared-clause-fails : goal.returns-in_err-prepared-clause-fails
returns-in_err-prepared-clause-fails c s x reachable allowed next counted there read bad =
    let reported = err_from_is_err_and c.from_residual-in_err-prepared.result c.from_residual-in_err-prepared.ensures.1 in
    let failed : c.prepare.result ≡ Err NotADesk = let was = c.in_err-prepared.was in let one = reported.1 in let two = reported.2 in cc in
    let user = c.args.user.now in
    let b = c.args.passage.now.block in
    let n = c.args.number in
    let above = c.requires in
    let at : n ≡ (n - 1) + 1 = omega (arith, above) in
    let sized : c.in_ok-new_words.new_words ≡ words_of b = search rules in
    let no : c.in_ok-no.no ≡ length s.moves + 1 = c.in_ok-no.ensures.next.0 ∙ ap (λ k. k + 1) counted.moves in
    let who : string_bytes c.in_ok-who.who ≡ user = search rules in
    let act = correcting (n - 1) user b in
    let step = c.move_by.ensures ∙ ap (correction_move c.in_ok-no.no n c.args.read.now c.in_ok-new_words.new_words) who ∙ correction_is s (n - 1) x c.args.read.now c.in_ok-no.no n c.in_ok-new_words.new_words user b no at there read sized in
    c.prepare.ensures.fails s act reachable allowed next counted step failed

pub returns-in_err-rev-clause-no_move_left : goal.returns-in_err-rev-clause-no_move_left
returns-in_err-rev-clause-no_move_left c past =
    let reported = err_from_is_err_and c.from_residual.result c.from_residual.ensures.1 in
    let fault = c.in_err-rev.ensures.fault in
    let one = reported.1 in
    let two = reported.2 in
    cc

pub returns-in_err-new_words-clause-no_move_left : goal.returns-in_err-new_words-clause-no_move_left
returns-in_err-new_words-clause-no_move_left c past =
    let reported = err_from_is_err_and c.from_residual-in_err-new_words.result c.from_residual-in_err-new_words.ensures.1 in
    let fault = c.in_err-new_words.ensures.fault in
    let one = reported.1 in
    let two = reported.2 in
    cc

pub returns-in_err-no-clause-no_move_left : goal.returns-in_err-no-clause-no_move_left
returns-in_err-no-clause-no_move_left c past =
    let reported = err_from_is_err_and c.from_residual-in_err-no.result c.from_residual-in_err-no.ensures.1 in
    let fault = c.in_err-no.ensures.fault in
    let one = reported.1 in
    let two = reported.2 in
    cc

pub returns-in_err-who-clause-no_move_left : goal.returns-in_err-who-clause-no_move_left
returns-in_err-who-clause-no_move_left c past = let next = c.in_ok-no.ensures.next in absurd (omega (arith, past, next.0, next.1))

pub returns-in_err-prepared-clause-no_move_left : goal.returns-in_err-prepared-clause-no_move_left
returns-in_err-prepared-clause-no_move_left c past = let next = c.in_ok-no.ensures.next in absurd (omega (arith, past, next.0, next.1))

pub returns-clause-no_move_left : goal.returns-clause-no_move_left
returns-clause-no_move_left c past = let next = c.in_ok-no.ensures.next in absurd (omega (arith, past, next.0, next.1))
