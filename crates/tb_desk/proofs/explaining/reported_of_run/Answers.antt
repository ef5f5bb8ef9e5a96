use Rattle.std.proofs.Common.{◌≡◌, ◌≢◌, ◌∙◌, ◌&&◌, Some, None, is_some, true, true≢false, sym, ap, subst}
use Rattle.tb_answer.specs.declared.written.Written.{Written}
use Rattle.tb_answer.specs.declared.written.Written.TheVariants as written
use Rattle.tb_http.specs.declared.replies.Reply.{Reply}
use Rattle.tb_http.specs.declared.replies.Reply.TheVariants.{Device}
use Rattle.tb_desk.specs.Explaining.{IsExplained, IsExplainedAs}
use Rattle.tb_desk.proofs.explaining.reported_of_run.Goals as goal

-- the reply that was written, or another
reply_or : Reply → Written → Reply
reply_or other (written.Reply r) = r
reply_or other (written.Text bytes) = other
reply_or other (written.Table hits) = other
reply_or other (written.Found ending) = other
reply_or other written.Usage = other

same_reply : (a b : Reply) → written.Reply a ≡ written.Reply b → a ≡ b
unfolding reply_or
same_reply a b is = ap (reply_or a) is

none_of_some : {X P : Type 0} (x : X) → Some x ≡ None → P
none_of_some x is = absurd (true≢false (ap is_some is))

pub returns-in-Some-clause-explained : goal.returns-in-Some-clause-explained
returns-in-Some-clause-explained g c r is other = none_of_some c.in-Some.cause (c.in-Some.ensures.other (λ device. other (same_reply r Device (sym is ∙ device))))

pub returns-in-None-clause-explained : goal.returns-in-None-clause-explained
returns-in-None-clause-explained g c r is other = subst (λ w. IsExplainedAs c.args.is_wanted w c.reported_of.result) is c.reported_of.ensures.explained

pub returns-in-None-clause-device : goal.returns-in-None-clause-device
returns-in-None-clause-device g c is wanted =
    let said : IsExplained c.args.is_wanted Device c.reported_of.result = subst (λ w. IsExplainedAs c.args.is_wanted w c.reported_of.result) is c.reported_of.ensures.explained in
    said.0 ∙ ap (λ b. b && true) wanted
