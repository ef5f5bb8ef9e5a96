use Rattle.std.proofs.Common.{◌∙◌}
use Rattle.tb_answer.proofs.Parts.{same_sent}
use Rattle.tb_answer.proofs.responses.respond_reply.Goals as goal

pub returns : goal.returns
returns g c =
    same_sent _ _ _ _ _ _ _ _ _ _
    (c.as_bytes.ensures.value ∙ c.as_str.ensures.value ∙ c.head_of_reply-head.ensures)
    (c.as_bytes-2.ensures.value ∙ c.as_str-2.ensures.value ∙ c.line-line.ensures)
    c.status.ensures c.put_response.ensures
