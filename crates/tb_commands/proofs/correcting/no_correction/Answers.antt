use Rattle.std.proofs.Common.{◌≡◌, subst, refl}
use Rattle.tb_core.specs.declared.refusals.Refusal.{Refusal}
use Rattle.tb_core.specs.Commands.{correct, refused}
use Rattle.tb_core.specs.Steps.{Steps}
use Rattle.tb_commands.proofs.correcting.no_correction.Goals as goal

pub returns-in-Err-clause-refused : goal.returns-in-Err-clause-refused
returns-in-Err-clause-refused c r is l s lacks =
    let made = c.from.ensures in
    let same : c.in-Err.refusal ≡ r = cc in
    subst (λ (q : Refusal). Steps l s (correct c.args.number c.args.base c.args.user.now c.args.body.now) (refused q) s) same (c.in-Err.ensures.refused l s lacks)

pub returns-in-Ok-clause-fails : goal.returns-in-Ok-clause-fails
returns-in-Ok-clause-fails c bad = c.in-Ok.ensures.stands refl
