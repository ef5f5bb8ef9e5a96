use Rattle.tb_import.proofs.Filled.{filled}
use Rattle.tb_import.proofs.Ordered.{counted}
use Rattle.tb_refine.proofs.There.{element}
use Rattle.tb_core.specs.Tests.{of_batch}
use Rattle.tb_core.specs.Machine.{weigh}
use Rattle.std.proofs.Common.{length, refl, sym, ◌≡◌, ap, ◌∙◌, arith}
use Rattle.tb_import.proofs.Firstly.{reply_is}
use Rattle.tb_import.proofs.naming.reply_again.Goals as goal

pub returns-clause-answered : goal.returns-clause-answered
returns-clause-answered c s reached read summed =
    let start = rw c.in-Some.is at c.first.ensures.value in
    rw (c.from.ensures, c.from-2.ensures) (reply_is c.reached_states_are_well.ensures s c.args.number (length c.args.work.now) c.args.words c.args.work.now c.in-Some.first.now reached summed read (sym start) refl)

pub returns-in_default-clause-fails : goal.returns-in_default-clause-fails
returns-in_default-clause-fails c s reached above within read bad =
    let some = filled s reached c.args.number above within in
    let many : length c.args.work.now ≡ weigh (of_batch c.args.number) s.sentences = ap length read ∙ counted c.args.number 1 s.sentences in
    let none = rw c.in_default.is at c.first.ensures.value in
    let it = element c.args.work.now 0 (omega (arith, some, many)) in
    let start = it.1 in
    absurd cc
