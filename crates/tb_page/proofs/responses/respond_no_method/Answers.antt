use Rattle.std.proofs.Common.{◌∙◌, ◌++◌, codes, subst}
use Rattle.tb_http.specs.declared.status.Status.TheVariants.{MethodNotAllowed}
use Rattle.tb_answer.specs.Responses.{IsSent}
use Rattle.tb_page.proofs.responses.respond_no_method.Goals as goal

pub returns : goal.returns
returns g c =
    subst (λ head. IsSent (g.W.Sink.held c.args.out.now) (g.W.Sink.held c.put_response.new.out) (head ++ codes "refused method\n") MethodNotAllowed (g.W.Sink.IsRefusal c.put_response.new.out) c.put_response.result)
    (c.as_bytes.ensures.value ∙ c.as_str.ensures.value ∙ c.page_head-head.ensures) c.put_response.ensures
