use Rattle.std.proofs.Common.{sym, subst, ◌∙◌}
use Rattle.tb_check.specs.Check.{IsReplyTo}
use Rattle.tb_check.proofs.Read.{read_fault}
use Rattle.tb_check.proofs.Wanting.{fault_wants, told_wants}
use Rattle.tb_check.proofs.check.check_file.Goals as goal

pub returns-in-Ok-clause-reply : goal.returns-in-Ok-clause-reply
returns-in-Ok-clause-reply c =
    let found = c.in-Ok.ensures.found in
    c.reply.ensures.reply c.args.limit c.args.file.now found.0 c.requires found.1 found.2

pub returns-in-Err-clause-reply : goal.returns-in-Err-clause-reply
returns-in-Err-clause-reply c =
    let is = read_fault c.args.limit c.args.file.now c.in-Err.fault c.requires c.in-Err.ensures.fault in
    subst (IsReplyTo c.args.limit c.args.file.now) (sym c.reply_for.ensures) is

pub returns-in-Ok-clause-memory : goal.returns-in-Ok-clause-memory
returns-in-Ok-clause-memory c = λ wants.
    let found = c.in-Ok.ensures.found in
    told_wants c.args.file.now found.0 c.in-Ok.found.fault c.in-Ok.found.sentences c.in-Ok.found.words found.1 found.2.2 (sym c.reply.ensures.value ∙ wants)

pub returns-in-Err-clause-memory : goal.returns-in-Err-clause-memory
returns-in-Err-clause-memory c = λ wants. fault_wants c.args.file.now c.in-Err.fault c.in-Err.ensures.memory (sym c.reply_for.ensures ∙ wants)
