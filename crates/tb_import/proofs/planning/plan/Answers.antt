use Rattle.tb_import.proofs.Bounds.{taken_room, taken_small}
use Rattle.tb_refine.proofs.Bounded.{narrow}
use Rattle.tb_refine.proofs.Lasting.{sound}
use Rattle.tb_core.specs.Acts.{importing, move_of}
use Rattle.tb_core.specs.declared.refusals.Fault.TheVariants.{NotADesk}
use Rattle.std.proofs.lemmas.Result.{err_from_is_err_and}
use Rattle.std.proofs.Common.{◌≡◌, ◌+◌, length, map, ap, ◌∙◌, Err, ◌<◌, ◌^◌, ◌∷◌, [], sym, subst, arith, length-append}
use Rattle.std.specs.Prelude.{sum_by}
use Rattle.std.proofs.lemmas.List.{length-map}
use Rattle.tb_core.specs.Taking.{taken_of}
use Rattle.tb_import.proofs.Counting.{its_words}
use Rattle.tb_import.proofs.Meaning.{answer_is}
use Rattle.tb_import.proofs.planning.plan.Goals as goal

pub returns-clause-planned : goal.returns-clause-planned
returns-clause-planned c s name bs reached allowed known is =
    let number : c.in_ok-number.number ≡ 1 + length s.batches = c.in_ok-number.ensures.next ∙ ap (λ n. 1 + n) known.batches in
    let first : c.in_ok-first.first ≡ 1 + length s.sentences = c.in_ok-first.ensures.next.0 ∙ ap (λ n. 1 + n) known.sentences in
    let many : length c.args.taken.now ≡ length bs = ap length is ∙ length-map bs taken_of in
    let summed : c.in_ok-words.words ≡ sum_by its_words (map taken_of bs) = c.in_ok-words.ensures.value ∙ ap (sum_by its_words) is in
    record {
      number = number;
      first = first;
      prepared = c.in_ok-prepared.ensures.prepared s name bs reached allowed known number many summed;
      reply = rw (c.from.ensures, c.from-2.ensures) (answer_is s name c.args.user.now bs c.in_ok-number.number c.in_ok-first.first (length c.args.taken.now) c.in_ok-words.words number first many summed);
    }

pub returns-in_err-number-clause-fails : goal.returns-in_err-number-clause-fails
returns-in_err-number-clause-fails c s name bs reachable allowed next known is bad =
    let reported = err_from_is_err_and c.from_residual.result c.from_residual.ensures.1 in
    let failed : c.next_batch.result ≡ Err NotADesk = let was = c.in_err-number.was in let one = reported.1 in let two = reported.2 in cc in
    let few = (sound s reachable.reached).few in
    let moves = next.moves in
    let size = length-append s.moves (move_of s (importing name c.args.user.now bs) ∷ []) in
    let batches = known.batches in
    c.next_batch.ensures.fails (narrow (1 + c.args.known.now.batches) (omega (arith, few, moves, size, batches))) failed

pub returns-in_err-first-clause-fails : goal.returns-in_err-first-clause-fails
returns-in_err-first-clause-fails c s name bs reachable allowed next known is bad =
    let reported = err_from_is_err_and c.from_residual-in_err-first.result c.from_residual-in_err-first.ensures.1 in
    let failed : c.next_sentence.result ≡ Err NotADesk = let was = c.in_err-first.was in let one = reported.1 in let two = reported.2 in cc in
    let many : length c.args.taken.now ≡ length bs = ap length is ∙ length-map bs taken_of in
    let room = taken_room s name c.args.user.now bs next in
    let standing = known.sentences in
    c.next_sentence.ensures.fails (omega (arith, many, room, standing)) failed

pub returns-in_err-words-clause-fails : goal.returns-in_err-words-clause-fails
returns-in_err-words-clause-fails c s name bs reachable allowed next known is bad =
    let reported = err_from_is_err_and c.from_residual-in_err-words.result c.from_residual-in_err-words.ensures.1 in
    let failed : c.words_in.result ≡ Err NotADesk = let was = c.in_err-words.was in let one = reported.1 in let two = reported.2 in cc in
    c.words_in.ensures.fails (subst (λ n. n < 2 ^ 64) (sym (ap (sum_by its_words) is)) (taken_small s name c.args.user.now bs next)) failed

pub returns-in_err-prepared-clause-fails : goal.returns-in_err-prepared-clause-fails
returns-in_err-prepared-clause-fails c s name bs reachable allowed next known is bad =
    let reported = err_from_is_err_and c.from_residual-in_err-prepared.result c.from_residual-in_err-prepared.ensures.1 in
    let failed : c.change_by.result ≡ Err NotADesk = let was = c.in_err-prepared.was in let one = reported.1 in let two = reported.2 in cc in
    let number : c.in_ok-number.number ≡ 1 + length s.batches = c.in_ok-number.ensures.next ∙ ap (λ n. 1 + n) known.batches in
    let many : length c.args.taken.now ≡ length bs = ap length is ∙ length-map bs taken_of in
    let summed : c.in_ok-words.words ≡ sum_by its_words (map taken_of bs) = c.in_ok-words.ensures.value ∙ ap (sum_by its_words) is in
    c.change_by.ensures.fails s name bs reachable allowed next known number many summed failed

pub returns-in_err-prepared-clause-no_move_left : goal.returns-in_err-prepared-clause-no_move_left
returns-in_err-prepared-clause-no_move_left c past =
    let reported = err_from_is_err_and c.from_residual-in_err-prepared.result c.from_residual-in_err-prepared.ensures.1 in
    let told = c.change_by.ensures.no_move_left past in
    let was = c.in_err-prepared.was in
    let one = reported.1 in
    let two = reported.2 in
    cc

pub returns-clause-no_move_left : goal.returns-clause-no_move_left
returns-clause-no_move_left c past = let room = c.in_ok-prepared.ensures.room in absurd (omega (arith, past, room))

pub returns-in_err-prepared-clause-no_sentence_left : goal.returns-in_err-prepared-clause-no_sentence_left
returns-in_err-prepared-clause-no_sentence_left c past = let next = c.in_ok-first.ensures.next in absurd (omega (arith, past, next.1))

pub returns-clause-no_sentence_left : goal.returns-clause-no_sentence_left
returns-clause-no_sentence_left c past = let next = c.in_ok-first.ensures.next in absurd (omega (arith, past, next.1))
