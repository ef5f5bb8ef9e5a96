use Rattle.std.proofs.Common.{◌≡◌, ◌-◌, Some, subst, sym, Err}
use Rattle.std.proofs.lemmas.Result.{err_from_is_err_and}
use Rattle.tb_core.specs.declared.refusals.Refusal.{Refusal}
use Rattle.tb_core.specs.declared.refusals.Fault.TheVariants.{Refused, NotADesk}
use Rattle.tb_core.specs.Commands.{correct, refused}
use Rattle.tb_core.specs.Steps.{Steps}
use Rattle.tb_core.specs.Found.{CurrentSeen, FindsCurrent}
use Rattle.tb_commands.proofs.Corrected.{current_found, numbered}
use Rattle.tb_commands.proofs.correcting.decide.Goals as goal

pub returns-in_err-reply-clause-refused : goal.returns-in_err-reply-clause-refused
returns-in_err-reply-clause-refused c r is s x reached counted there read =
    let reported = err_from_is_err_and c.from_residual.result c.from_residual.ensures.1 in
    let one = reported.1 in
    let two = reported.2 in
    let refused_so = rw c.from.ensures at c.in_err-reply.ensures.refused in
    let same : c.in_err-reply.field-0.0 ≡ r = cc in
    let found = subst (λ (f : CurrentSeen). FindsCurrent s c.args.number (Some f)) (sym c.found_of-found.ensures) (current_found s c.args.number x c.args.read.now c.requires there read) in
    subst (λ (q : Refusal). Steps c.args.counts.now.limits s (correct c.args.number c.args.base c.args.user.now c.args.body.now) (refused q) s) same (refused_so c.args.counts.now.limits s found)

pub returns-in_err-reply-in-Continue-clause-refused : goal.returns-in_err-reply-in-Continue-clause-refused
returns-in_err-reply-in-Continue-clause-refused c r is s x reached counted there read =
    let reported = err_from_is_err_and c.from_residual-in_err-reply-in-Continue.result c.from_residual-in_err-reply-in-Continue.ensures.1 in
    let failed : c.plan_body.result ≡ Err (Refused r) = let was = c.in_err-reply-in-Continue.was in let one = reported.1 in let two = reported.2 in cc in
    let found = subst (λ (f : CurrentSeen). FindsCurrent s c.args.number (Some f)) (sym c.found_of-found.ensures) (current_found s c.args.number x c.args.read.now c.requires there read) in
    let goes = rw (c.from.ensures, c.in-Continue.is) at c.in_ok-reply.ensures.goes in
    c.plan_body.ensures.refused r failed s c.args.base x reached counted read (goes s (c.args.number - 1) x found (numbered s c.args.number x c.requires there))

pub returns-in-Repeat-clause-answered : goal.returns-in-Repeat-clause-answered
returns-in-Repeat-clause-answered c s x reached counted there read =
    let found = subst (λ (f : CurrentSeen). FindsCurrent s c.args.number (Some f)) (sym c.found_of-found.ensures) (current_found s c.args.number x c.args.read.now c.requires there read) in
    let repeated = rw (c.from.ensures, c.in-Repeat.is) at c.in_ok-reply.ensures.repeated in
    repeated c.args.counts.now.limits s found

pub returns-in_ok-reply-in-Continue-clause-answered : goal.returns-in_ok-reply-in-Continue-clause-answered
returns-in_ok-reply-in-Continue-clause-answered c s x reached counted there read =
    let found = subst (λ (f : CurrentSeen). FindsCurrent s c.args.number (Some f)) (sym c.found_of-found.ensures) (current_found s c.args.number x c.args.read.now c.requires there read) in
    let goes = rw (c.from.ensures, c.in-Continue.is) at c.in_ok-reply.ensures.goes in
    c.in_ok-reply-in-Continue.ensures.answered s c.args.base x reached counted read (goes s (c.args.number - 1) x found (numbered s c.args.number x c.requires there))

pub returns-in_err-reply-clause-fails : goal.returns-in_err-reply-clause-fails
returns-in_err-reply-clause-fails c within s x reachable counted there read bad =
    let reported = err_from_is_err_and c.from_residual.result c.from_residual.ensures.1 in
    let one = reported.1 in
    let two = reported.2 in
    absurd cc

pub returns-in_err-reply-in-Continue-clause-fails : goal.returns-in_err-reply-in-Continue-clause-fails
returns-in_err-reply-in-Continue-clause-fails c within s x reachable counted there read bad =
    let reported = err_from_is_err_and c.from_residual-in_err-reply-in-Continue.result c.from_residual-in_err-reply-in-Continue.ensures.1 in
    let failed : c.plan_body.result ≡ Err NotADesk = let was = c.in_err-reply-in-Continue.was in let one = reported.1 in let two = reported.2 in cc in
    let found = subst (λ (f : CurrentSeen). FindsCurrent s c.args.number (Some f)) (sym c.found_of-found.ensures) (current_found s c.args.number x c.args.read.now c.requires there read) in
    let goes = rw (c.from.ensures, c.in-Continue.is) at c.in_ok-reply.ensures.goes in
    c.plan_body.ensures.fails within s c.args.base x reachable counted read (goes s (c.args.number - 1) x found (numbered s c.args.number x c.requires there)) failed

pub returns-in_err-reply-clause-wants : goal.returns-in_err-reply-clause-wants
returns-in_err-reply-clause-wants c want s x there read =
    let reported = err_from_is_err_and c.from_residual.result c.from_residual.ensures.1 in
    let one = reported.1 in
    let two = reported.2 in
    absurd cc

pub returns-in_err-reply-in-Continue-clause-wants : goal.returns-in_err-reply-in-Continue-clause-wants
returns-in_err-reply-in-Continue-clause-wants c want s x there read =
    let found = subst (λ (f : CurrentSeen). FindsCurrent s c.args.number (Some f)) (sym c.found_of-found.ensures) (current_found s c.args.number x c.args.read.now c.requires there read) in
    let goes = rw (c.from.ensures, c.in-Continue.is) at c.in_ok-reply.ensures.goes in
    goes s (c.args.number - 1) x found (numbered s c.args.number x c.requires there)
