use Rattle.std.proofs.Common.{◌∙◌, subst}
use Rattle.tb_http.specs.Replies.{status_of}
use Rattle.tb_answer.specs.Responses.{IsSent}
use Rattle.tb_page.specs.Heads.{page_response}
use Rattle.tb_page.specs.declared.heads.Kind.TheVariants.{Plain}
use Rattle.tb_page.proofs.responses.respond_refusal.Goals as goal

pub returns : goal.returns
returns g c =
    subst (λ text. IsSent (g.W.Sink.held c.args.out.now) (g.W.Sink.held c.put_page.new.out) (page_response (status_of c.args.reply) Plain text) (status_of c.args.reply) (g.W.Sink.IsRefusal c.put_page.new.out) c.put_page.result)
    (c.as_bytes.ensures.value ∙ c.as_str.ensures.value ∙ c.line-line.ensures)
    (subst (λ status. IsSent (g.W.Sink.held c.args.out.now) (g.W.Sink.held c.put_page.new.out) (page_response status Plain c.as_bytes.result.now) status (g.W.Sink.IsRefusal c.put_page.new.out) c.put_page.result)
    c.status.ensures c.put_page.ensures)
