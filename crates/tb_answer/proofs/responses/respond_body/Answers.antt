use Rattle.std.proofs.Common.{◌∙◌, refl}
use Rattle.tb_answer.proofs.Parts.{same_sent}
use Rattle.tb_answer.proofs.responses.respond_body.Goals as goal

pub returns : goal.returns
returns g c =
    same_sent _ _ _ _ _ _ _ _ _ _
    (c.as_bytes.ensures.value ∙ c.as_str.ensures.value ∙ c.body_head-head.ensures)
    c.as_slice.ensures.value refl c.put_response.ensures
