use Rattle.std.proofs.Common.{ap, inl, inr, refl}
use Rattle.tb_http.specs.declared.replies.Reply.TheVariants.{Memory}
use Rattle.tb_http.specs.declared.status.Status.TheVariants.{Ok}
use Rattle.tb_http.specs.Replies.{reply_text, status_of}
use Rattle.tb_page.specs.declared.heads.Kind.TheVariants.{Plain}
use Rattle.tb_page.specs.Heads.{page_response}
use Rattle.tb_page.proofs.responses.respond_check.Goals as goal

pub returns-in-Ok : goal.returns-in-Ok
returns-in-Ok g c =
    let list = c.in-Ok.list in (
      page_response Ok Plain c.as_slice.result.now,
      Ok,
      inl (list.text.items, list.status, c.in-Ok.ensures, ap (page_response Ok Plain) c.as_slice.ensures.value, refl),
      c.respond_text.ensures,
    )

pub returns-in-Err : goal.returns-in-Err
returns-in-Err g c = (page_response (status_of Memory) Plain (reply_text Memory), status_of Memory, inr (refl, refl), c.respond_refusal.ensures)
