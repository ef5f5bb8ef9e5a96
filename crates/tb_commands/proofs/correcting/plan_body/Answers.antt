use Rattle.std.proofs.Common.{◌≡◌, ◌∙◌, ◌-◌, ap, subst, sym, Err}
use Rattle.std.proofs.lemmas.Result.{err_from_is_err_and}
use Rattle.tb_core.specs.declared.refusals.Fault.TheVariants.{Refused, NotADesk}
use Rattle.tb_core.specs.Acts.{correcting, after}
use Rattle.tb_core.specs.Commands.{Reply, correct, replied, corrected_to, reply_to}
use Rattle.tb_core.specs.Steps.{Steps}
use Rattle.tb_commands.proofs.Corrected.{reply_is}
use Rattle.tb_commands.proofs.correcting.plan_body.Goals as goal

pub returns-in_err-passage-clause-refused : goal.returns-in_err-passage-clause-refused
returns-in_err-passage-clause-refused c r is s base x reached counted read named =
    let reported = err_from_is_err_and c.from_residual.result c.from_residual.ensures.1 in
    let failed : c.take.result ≡ Err (Refused r) = let was = c.in_err-passage.was in let one = reported.1 in let two = reported.2 in cc in
    c.take.ensures.refused r failed s c.args.number base c.args.user.now (c.args.number - 1) x reached named (c.as_str.ensures.value ∙ read.body) counted.moves

pub returns-clause-answered : goal.returns-clause-answered
returns-clause-answered c s base x reached counted read named =
    let got = c.in_ok-passage.ensures.accepted s c.args.number base c.args.user.now (c.args.number - 1) x reached named (c.as_str.ensures.value ∙ read.body) counted.moves in
    let b = c.in_ok-passage.passage.block in
    let plan = c.in_ok-plan.ensures.planned s x reached got.0 counted named.has.there read got.2 in
    let act = correcting (c.args.number - 1) c.args.user.now b in
    let same = ap corrected_to c.reply_of.ensures ∙ reply_is s c.args.number plan.sentence c.args.user.now b _ _ _ c.requires plan.made in
    (b, plan, got.0, subst (λ (r : Reply). Steps c.args.counts.now.limits s (correct c.args.number base c.args.user.now c.args.body.now) (replied r) (after s act)) (sym same) got.1)

pub returns-in_err-passage-clause-fails : goal.returns-in_err-passage-clause-fails
returns-in_err-passage-clause-fails c within s base x reachable counted read named bad =
    let reported = err_from_is_err_and c.from_residual.result c.from_residual.ensures.1 in
    let failed : c.take.result ≡ Err NotADesk = let was = c.in_err-passage.was in let one = reported.1 in let two = reported.2 in cc in
    c.take.ensures.fails s c.args.number base c.args.user.now (c.args.number - 1) x reachable.reached named (c.as_str.ensures.value ∙ read.body) failed

pub returns-in_err-plan-clause-fails : goal.returns-in_err-plan-clause-fails
returns-in_err-plan-clause-fails c within s base x reachable counted read named bad =
    let reported = err_from_is_err_and c.from_residual-in_err-plan.result c.from_residual-in_err-plan.ensures.1 in
    let failed : c.plan.result ≡ Err NotADesk = let was = c.in_err-plan.was in let one = reported.1 in let two = reported.2 in cc in
    let got = c.in_ok-passage.ensures.accepted s c.args.number base c.args.user.now (c.args.number - 1) x reachable.reached named (c.as_str.ensures.value ∙ read.body) counted.moves in
    let act = correcting (c.args.number - 1) c.args.user.now c.in_ok-passage.passage.block in
    let next = c.commands_stay_within_limits.ensures c.args.counts.now.limits s (after s act) (correct c.args.number base c.args.user.now c.args.body.now) (replied (reply_to s act)) within.sentences within.moves reachable got.1 in
    c.plan.ensures.fails s x reachable got.0 next counted named.has.there read failed
