use Rattle.std.proofs.Common.{◌≡◌, subst}
use Rattle.tb_core.specs.declared.refusals.Refusal.{Refusal}
use Rattle.tb_core.specs.Commands.{event_on, refused}
use Rattle.tb_core.specs.Steps.{Steps}
use Rattle.tb_commands.proofs.stepping.judge.Goals as goal

pub returns-in-Err-clause-refused : goal.returns-in-Err-clause-refused
returns-in-Err-clause-refused c r is s reached found moves =
    let same : c.in-Err.refusal ≡ r = cc in
    subst (λ (q : Refusal). Steps c.args.counts.now.limits s (event_on c.args.name.now c.args.event c.args.user.now) (refused q) s) same (c.in-Err.ensures.refused s reached (rw c.in-Some.is at found) moves)
