use Rattle.std.proofs.Common.{subst, sym}
use Rattle.tb_core.specs.declared.refusals.Refusal.{Refusal}
use Rattle.tb_http.specs.declared.replies.Reply.{Reply}
use Rattle.tb_http.specs.declared.replies.Reply.TheVariants as reply
use Rattle.tb_words.specs.Explaining.{ExplainsBody}
use Rattle.tb_words.proofs.refusals.words_of_reply.Goals as goal

pub returns-in-Refused-Read-clause-body : goal.returns-in-Refused-Read-clause-body
returns-in-Refused-Read-clause-body c =
    let known = rw c.in-Refused-Read.is at c.in-Refused-Read.field-0-is in
    subst (λ (r : Reply). ExplainsBody r c.args.body.now c.words_of_line.result) (sym c.in-Refused-Read.is)
    (subst (λ (r : Refusal). ExplainsBody (reply.Refused r) c.args.body.now c.words_of_line.result) (sym known) c.words_of_line.ensures.said)

pub returns-in-Refused-Rule-clause-body : goal.returns-in-Refused-Rule-clause-body
returns-in-Refused-Rule-clause-body c =
    let known = rw c.in-Refused-Rule.is at c.in-Refused-Rule.field-0-is in
    subst (λ (r : Reply). ExplainsBody r c.args.body.now c.words_of_rule.result) (sym c.in-Refused-Rule.is)
    (subst (λ (r : Refusal). ExplainsBody (reply.Refused r) c.args.body.now c.words_of_rule.result) (sym known) c.words_of_rule.ensures.said)
