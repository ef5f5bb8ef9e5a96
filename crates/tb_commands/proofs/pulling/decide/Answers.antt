use Rattle.std.proofs.Common.{◌≡◌, subst, sym}
use Rattle.tb_core.specs.declared.refusals.Refusal.{Refusal}
use Rattle.tb_core.specs.Acts.{after}
use Rattle.tb_core.specs.Commands.{Reply, reply_to, replied, refused}
use Rattle.tb_core.specs.Steps.{Steps}
use Rattle.tb_reads.proofs.Shown.{if_ok}
use Rattle.tb_commands.specs.Pulling.{command_of, act_of}
use Rattle.tb_commands.proofs.Pulled.{sentence_found, replies_as}
use Rattle.tb_commands.proofs.pulling.decide.Goals as goal

pub returns-in-Err-clause-refused : goal.returns-in-Err-clause-refused
returns-in-Err-clause-refused c r is s x reached counted there read =
    let n = c.args.number in
    let refuses = rw c.from.ensures at c.in-Err.ensures.refused in
    let same : c.in-Err.refusal ≡ r = cc in
    subst (λ (q : Refusal). Steps c.args.counts.now.limits s (command_of c.args.asked n c.args.user.now) (refused q) s) same (refuses s (sentence_found s n x c.args.read.now c.requires there read) counted.moves)

pub returns-in-Ok-clause-answered : goal.returns-in-Ok-clause-answered
returns-in-Ok-clause-answered c = if_ok c.plan.result c.plan.ensures.planned (λ r plans s x reached counted there read.
    let n = c.args.number in
    let user = c.args.user.now in
    let accepts = rw c.from.ensures at c.in-Ok.ensures.accepted in
    let got = accepts s (sentence_found s n x c.args.read.now c.requires there read) counted.moves in
    let reply = replies_as s n user c.args.read.now x c.requires there read c.args.asked in
    record {
      prepared = plans s x reached got.0 counted there read;
      allowed = got.0;
      steps = subst (λ (q : Reply). Steps c.args.counts.now.limits s (command_of c.args.asked n user) (replied q) (after s (act_of c.args.asked n user))) (sym reply) got.1;
    })

pub returns-in-Ok-clause-fails : goal.returns-in-Ok-clause-fails
returns-in-Ok-clause-fails c s x reachable counted within there read bad =
    let n = c.args.number in
    let user = c.args.user.now in
    let act = act_of c.args.asked n user in
    let accepts = rw c.from.ensures at c.in-Ok.ensures.accepted in
    let got = accepts s (sentence_found s n x c.args.read.now c.requires there read) counted.moves in
    let next = c.commands_stay_within_limits.ensures c.args.counts.now.limits s (after s act) (command_of c.args.asked n user) (replied (reply_to s act)) within.sentences within.moves reachable got.1 in
    c.plan.ensures.fails s x reachable got.0 next counted there read bad

pub returns-in-Ok-clause-wants : goal.returns-in-Ok-clause-wants
returns-in-Ok-clause-wants c want s x reached counted there read =
    let accepts = rw c.from.ensures at c.in-Ok.ensures.accepted in
    (accepts s (sentence_found s c.args.number x c.args.read.now c.requires there read) counted.moves).0
