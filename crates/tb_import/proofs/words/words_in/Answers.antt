use Rattle.tb_import.proofs.Bounds.{so_far_below}
use Rattle.tb_core.specs.declared.refusals.Fault.TheVariants.{NotADesk}
use Rattle.std.proofs.lemmas.Result.{err_from_is_err_and}
use Rattle.std.proofs.Common.{◌≡◌, ◌+◌, ◌<◌, length, arith, ap, ◌∙◌, ◌^◌, Err, sym, subst}
use Rattle.tb_core.specs.Taking.{NewSentenceText}
use Rattle.tb_import.proofs.Counting.{sum_more, its_words}
use Rattle.tb_import.proofs.words.words_in.Goals as goal

pub loop-one-preserved : goal.loop-one-preserved
loop-one-preserved c =
    let low : c.loop-one.one-index < length c.args.taken.now = omega (arith, c.loop-one-test.true) in
    let sum : c.in_ok-more.more ≡ c.loop-one.total + c.one.inside.words = c.in_ok-more.ensures.sum in
    let its : c.one.inside.words ≡ c.one-item.result.words = ap (λ (t : NewSentenceText). t.words) c.one.view_is in
    sum_more c.args.taken.now c.loop-one.one-index c.one-item.result c.loop-one.total c.in_ok-more.more low c.one-item.is (sum ∙ ap (λ n. c.loop-one.total + n) its) c.loop-one.invariant

pub returns-in_err-more-clause-fails : goal.returns-in_err-more-clause-fails
returns-in_err-more-clause-fails c small bad =
    let reported = err_from_is_err_and c.from_residual.result c.from_residual.ensures.1 in
    let failed : c.more_words.result ≡ Err NotADesk = let was = c.in_err-more.was in let one = reported.1 in let two = reported.2 in cc in
    let low : c.loop-one.one-index < length c.args.taken.now = omega (arith, c.loop-one-test.true) in
    let its : c.one.inside.words ≡ c.one-item.result.words = ap (λ (t : NewSentenceText). t.words) c.one.view_is in
    let sum = sum_more c.args.taken.now c.loop-one.one-index c.one-item.result c.loop-one.total (c.loop-one.total + c.one.inside.words) low c.one-item.is (ap (λ n. c.loop-one.total + n) its) c.loop-one.invariant in
    let part = so_far_below its_words c.args.taken.now c.loop-one.one-index small in
    c.more_words.ensures.fails (subst (λ n. n < 2 ^ 64) (sym sum) part) failed
