use Rattle.tb_import.proofs.Bounds.{so_far_below}
use Rattle.tb_conllu.specs.Words.{words_of}
use Rattle.tb_core.specs.declared.refusals.Fault.TheVariants.{NotADesk, Memory}
use Rattle.std.proofs.lemmas.Result.{err_from_is_err_and}
use Rattle.std.proofs.Common.{◌≡◌, ◌+◌, ◌<◌, ◌≤◌, length, arith, Err, ◌^◌, refl, sym, subst}
use Rattle.sqlite.specs.Held.{state}
use Rattle.sqlite.specs.State.{HasCleanDisk}
use Rattle.tb_import.proofs.Left.{left_then, stays_then, desk_stays}
use Rattle.tb_import.proofs.Follows.{next_of, more_words, all_words, at_first}
use Rattle.tb_import.proofs.Looks.{look_ended, look_unmade, look_well}
use Rattle.tb_import.proofs.again.words_again.Goals as goal

pub loop-one-preserved : goal.loop-one-preserved
loop-one-preserved g c =
    let inv = c.loop-one.invariant in
    let i = c.loop-one.one-index in
    let low : i < length c.args.work.now = omega (arith, c.loop-one-test.true) in
    let sum : c.in_ok-more.more ≡ c.loop-one.total + c.in_ok-words.words = c.in_ok-more.ensures.sum in
    let read = c.first_words.ensures.look.left in (
      left_then g.S.Store c.args.conn.now c.loop-one.conn c.first_words.new.conn inv.0 inv.1 read,
      stays_then g.S.Store c.args.conn.now c.loop-one.conn c.first_words.new.conn inv.1 read c.in_ok-words.ensures.look.stays,
      λ clean s bs firsts desk.
          let mid : HasCleanDisk (state g.S.Store c.loop-one.conn) = omega (arith, clean, read.commits_nothing.clean) in
          let here = desk_stays g.S.Store c.args.conn.now c.loop-one.conn inv.1 mid s desk in
          let next = next_of s c.args.work.now bs i low firsts in
          more_words s c.args.work.now bs i next c.loop-one.total c.in_ok-more.more c.in_ok-words.words sum (c.in_ok-words.ensures.answered clean s next.body here next.work) (inv.2 mid s bs firsts desk),
    )

pub returns-clause-answered : goal.returns-clause-answered
returns-clause-answered g c clean s bs desk firsts =
    let past : length c.args.work.now ≤ c.loop-one.one-index = omega (arith, c.loop-one-test.false) in
    all_words s c.args.work.now bs c.loop-one.one-index c.loop-one.total firsts past (c.loop-one.invariant.2 clean s bs firsts desk)

pub returns-in_err-words-clause-current : goal.returns-in_err-words-clause-current
returns-in_err-words-clause-current g c all bad =
    let reported = err_from_is_err_and c.from_residual.result c.from_residual.ensures.1 in
    let failed : c.first_words.result ≡ Err Memory = let was = c.in_err-words.was in let one = reported.1 in let two = reported.2 in cc in
    let low : c.loop-one.one-index < length c.args.work.now = omega (arith, c.loop-one-test.true) in
    let told = c.first_words.ensures.current (at_first c.args.work.now c.loop-one.one-index low all) in
    absurd cc

pub returns-in_err-more-clause-current : goal.returns-in_err-more-clause-current
returns-in_err-more-clause-current g c all bad =
    let reported = err_from_is_err_and c.from_residual-in_err-more.result c.from_residual-in_err-more.ensures.1 in
    let fault = c.in_err-more.ensures.fault in
    let one = reported.1 in
    let two = reported.2 in
    absurd cc

pub returns-in_err-words-clause-look : goal.returns-in_err-words-clause-look
returns-in_err-words-clause-look g c =
    let inv = c.loop-one.invariant in
    let i = c.loop-one.one-index in
    let low : i < length c.args.work.now = omega (arith, c.loop-one-test.true) in
    look_ended c.from_residual.result c.in_err-words.field-0.0 c.from_residual.ensures.1 inv.0 inv.1 c.in_err-words.ensures.look (λ mid s desk fails on bs firsts small.
    let next = next_of s c.args.work.now bs i low firsts in
    on (fails next.body next.work))

pub returns-in_err-more-clause-look : goal.returns-in_err-more-clause-look
returns-in_err-more-clause-look g c =
    let inv = c.loop-one.invariant in
    let i = c.loop-one.one-index in
    let low : i < length c.args.work.now = omega (arith, c.loop-one-test.true) in
    let residual = c.from_residual-in_err-more in
    let read = c.in_ok-words.ensures.look in
    look_unmade residual.result c.in_err-more.field-0.0 residual.ensures.1 c.in_err-more.ensures.fault (left_then g.S.Store c.args.conn.now c.loop-one.conn c.first_words.new.conn inv.0 inv.1 read.left) (λ clean unlimited s desk bs firsts small bad.
    let reported = err_from_is_err_and residual.result residual.ensures.1 in
    let failed : c.more_words.result ≡ Err NotADesk = let was = c.in_err-more.was in let one = reported.1 in let two = reported.2 in cc in
    let mid : HasCleanDisk (state g.S.Store c.loop-one.conn) = omega (arith, clean, read.left.commits_nothing.clean) in
    let here = desk_stays g.S.Store c.args.conn.now c.loop-one.conn inv.1 mid s desk in
    let next = next_of s c.args.work.now bs i low firsts in
    let counted = c.in_ok-words.ensures.answered clean s next.body here next.work in
    let sum = more_words s c.args.work.now bs i next c.loop-one.total (c.loop-one.total + c.in_ok-words.words) c.in_ok-words.words refl counted (inv.2 mid s bs firsts desk) in
    let part = so_far_below words_of bs i small in
    c.more_words.ensures.fails (subst (λ n. n < 2 ^ 64) (sym sum) part) failed)

pub returns-clause-look : goal.returns-clause-look
returns-clause-look g c = look_well c.loop-one.invariant.0 c.loop-one.invariant.1 (λ s fine bs firsts small. fine)
