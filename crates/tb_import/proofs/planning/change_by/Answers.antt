use Rattle.tb_core.specs.declared.refusals.Fault.TheVariants.{NotADesk}
use Rattle.std.proofs.lemmas.Result.{err_from_is_err_and}
use Rattle.std.proofs.Common.{◌≡◌, ◌+◌, length, ap, ◌∙◌, rules, string_bytes, Err, ◌∷◌, [], arith, length-append}
use Rattle.tb_core.specs.Acts.{importing, move_of}
use Rattle.tb_reads.proofs.Shown.{if_ok}
use Rattle.tb_import.specs.Planned.{import_move}
use Rattle.tb_import.proofs.Meaning.{import_is}
use Rattle.tb_import.proofs.planning.change_by.Goals as goal

pub returns-clause-prepared : goal.returns-clause-prepared
returns-clause-prepared c = if_ok c.prepare.result c.prepare.ensures.prepared (λ p reported s name bs reached allowed known at many summed.
    let user = c.args.user.now in
    let no : c.in_ok-no.no ≡ length s.moves + 1 = c.in_ok-no.ensures.next.0 ∙ ap (λ k. k + 1) known.counted.moves in
    let who : string_bytes c.in_ok-who.who ≡ user = search rules in
    let step = c.move_by.ensures ∙ ap (import_move c.in_ok-no.no c.args.number c.args.sentences c.args.words) who ∙ import_is s name user bs c.in_ok-no.no c.args.number c.args.sentences c.args.words no at many summed in
    reported s (importing name user bs) reached allowed known.counted step)

pub returns-in_err-no-clause-fails : goal.returns-in_err-no-clause-fails
returns-in_err-no-clause-fails c s name bs reachable allowed next known at many summed bad =
    let reported = err_from_is_err_and c.from_residual.result c.from_residual.ensures.1 in
    let failed : c.next_move.result ≡ Err NotADesk = let was = c.in_err-no.was in let one = reported.1 in let two = reported.2 in cc in
    let moves = next.moves in
    let size = length-append s.moves (move_of s (importing name c.args.user.now bs) ∷ []) in
    let now = known.counted.moves in
    c.next_move.ensures.fails (omega (arith, now, moves, size)) failed

pub returns-clause-fails : goal.returns-clause-fails
returns-clause-fails c s name bs reachable allowed next known at many summed bad =
    let user = c.args.user.now in
    let no : c.in_ok-no.no ≡ length s.moves + 1 = c.in_ok-no.ensures.next.0 ∙ ap (λ k. k + 1) known.counted.moves in
    let who : string_bytes c.in_ok-who.who ≡ user = search rules in
    let step = c.move_by.ensures ∙ ap (import_move c.in_ok-no.no c.args.number c.args.sentences c.args.words) who ∙ import_is s name user bs c.in_ok-no.no c.args.number c.args.sentences c.args.words no at many summed in
    c.prepare.ensures.fails s (importing name user bs) reachable allowed next known.counted step bad

pub returns-in_err-no-clause-no_move_left : goal.returns-in_err-no-clause-no_move_left
returns-in_err-no-clause-no_move_left c past =
    let reported = err_from_is_err_and c.from_residual.result c.from_residual.ensures.1 in
    let fault = c.in_err-no.ensures.fault in
    let one = reported.1 in
    let two = reported.2 in
    cc

pub returns-in_err-who-clause-no_move_left : goal.returns-in_err-who-clause-no_move_left
returns-in_err-who-clause-no_move_left c past = let next = c.in_ok-no.ensures.next in absurd (omega (arith, past, next.0, next.1))

pub returns-clause-no_move_left : goal.returns-clause-no_move_left
returns-clause-no_move_left c past = let next = c.in_ok-no.ensures.next in absurd (omega (arith, past, next.0, next.1))
