use Rattle.tb_import.proofs.Bounds.{one_of}
use Rattle.tb_core.specs.Taking.{NewSentenceText}
use Rattle.tb_core.specs.declared.refusals.Fault.TheVariants.{NotADesk}
use Rattle.std.proofs.lemmas.Result.{err_from_is_err_and}
use Rattle.std.proofs.Common.{◌<◌, length, arith, ◌≡◌, Err, ◌^◌}
use Rattle.tb_import.proofs.Meaning.{one_reported}
use Rattle.tb_import.proofs.planning.items_of.Goals as goal

pub loop-one-preserved : goal.loop-one-preserved
loop-one-preserved c =
    let low : c.loop-one.one-index < length c.args.taken.now = omega (arith, c.loop-one-test.true) in
    one_reported c.args.taken.now c.loop-one.one-index c.one-item.result c.loop-one.items.items c.push.new.self.items c.in_ok-item.field-0 low c.one-item.is c.in_ok-item.ensures.reported c.in_ok-push.ensures.items c.loop-one.invariant

pub returns-in_err-item-clause-fails : goal.returns-in_err-item-clause-fails
returns-in_err-item-clause-fails c each bad =
    let reported = err_from_is_err_and c.from_residual.result c.from_residual.ensures.1 in
    let failed : c.item.result ≡ Err NotADesk = let was = c.in_err-item.was in let one = reported.1 in let two = reported.2 in cc in
    let low : c.loop-one.one-index < length c.args.taken.now = omega (arith, c.loop-one-test.true) in
    c.item.ensures.fails (one_of (λ (t : NewSentenceText). t.words < 2 ^ 32) c.args.taken.now c.loop-one.one-index c.one-item.result low c.one-item.is each) failed
