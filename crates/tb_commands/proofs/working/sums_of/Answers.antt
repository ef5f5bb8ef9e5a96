use Rattle.std.proofs.Common.{◌≡◌, ◌<◌, length, Err, arith}
use Rattle.std.proofs.lemmas.Result.{err_from_is_err_and}
use Rattle.tb_core.specs.declared.refusals.Fault.TheVariants.{NotADesk}
use Rattle.tb_commands.specs.Working.{unless_pulled, each_one, its_words}
use Rattle.tb_commands.proofs.Summing.{sum_more, sum_bound, sum_fits}
use Rattle.tb_commands.proofs.working.sums_of.Goals as goal

pub loop-item-preserved : goal.loop-item-preserved
loop-item-preserved c =
    let bound = c.in_ok-sums.ensures.bound in
    let before = c.loop-item.invariant in
    let low : c.loop-item.item-index < length c.args.work.now = omega (arith, c.loop-item-test.true) in (
      (λ up.
          let old = before.0 up in
          let step = c.in_ok-sums.ensures.value up in (
            sum_more (unless_pulled c.args.pulled.now each_one) c.args.work.now c.loop-item.item-index _ c.loop-item.sums.sentences c.in_ok-sums.sums.sentences low step.0 old.0,
            sum_more (unless_pulled c.args.pulled.now its_words) c.args.work.now c.loop-item.item-index _ c.loop-item.sums.words c.in_ok-sums.sums.words low step.1 old.1,
          )),
      omega (arith, bound.0, before.1),
      sum_bound its_words c.args.work.now c.loop-item.item-index _ c.loop-item.sums.words c.in_ok-sums.sums.words low bound.1 before.2,
    )

pub returns-in_err-sums-clause-fails : goal.returns-in_err-sums-clause-fails
returns-in_err-sums-clause-fails c few small bad =
    let reported = err_from_is_err_and c.from_residual.result c.from_residual.ensures.1 in
    let failed : c.with_work.result ≡ Err NotADesk = let was = c.in_err-sums.was in let one = reported.1 in let two = reported.2 in cc in
    let before = c.loop-item.invariant in
    let low : c.loop-item.item-index < length c.args.work.now = omega (arith, c.loop-item-test.true) in
    c.with_work.ensures.fails (omega (arith, before.1, low, few)) (sum_fits its_words c.args.work.now c.loop-item.item-index _ c.loop-item.sums.words _ low before.2 small) failed
