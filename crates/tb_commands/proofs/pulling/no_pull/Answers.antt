use Rattle.std.proofs.Common.{◌≡◌, subst}
use Rattle.tb_core.specs.declared.refusals.Refusal.{Refusal}
use Rattle.tb_core.specs.Commands.{pull, refused}
use Rattle.tb_core.specs.Steps.{Steps}
use Rattle.tb_commands.proofs.Replied as replies
use Rattle.tb_commands.proofs.pulling.no_pull.Goals as goal

pub returns-in-Err-clause-refused : goal.returns-in-Err-clause-refused
returns-in-Err-clause-refused c r is s lacks moves =
    let same : c.in-Err.refusal ≡ r = cc in
    subst (λ (q : Refusal). Steps c.args.counts.now.limits s (pull c.args.number c.args.user.now) (refused q) s) same (c.in-Err.ensures.refused s lacks moves)

pub returns-in-Ok-clause-fails : goal.returns-in-Ok-clause-fails
returns-in-Ok-clause-fails c s lacks moves bad =
    let got = c.in-Ok.ensures.accepted s lacks moves in
    replies.no_pull c.args.counts.now.limits s c.args.number c.args.user.now _ _ lacks got.1
