use Rattle.std.proofs.Common.{◌∙◌, subst}
use Rattle.tb_http.specs.declared.status.Status.TheVariants.{Ok}
use Rattle.tb_answer.specs.Responses.{IsSent}
use Rattle.tb_page.specs.Heads.{page_response}
use Rattle.tb_page.specs.Files.{file_kind}
use Rattle.tb_page.proofs.responses.respond_file.Goals as goal

pub returns : goal.returns
returns g c =
    subst (λ text. IsSent (g.W.Sink.held c.args.out.now) (g.W.Sink.held c.put_page.new.out) (page_response Ok (file_kind c.args.file) text) Ok (g.W.Sink.IsRefusal c.put_page.new.out) c.put_page.result)
    (c.as_bytes.ensures.value ∙ c.text.ensures)
    (subst (λ kind. IsSent (g.W.Sink.held c.args.out.now) (g.W.Sink.held c.put_page.new.out) (page_response Ok kind c.as_bytes.result.now) Ok (g.W.Sink.IsRefusal c.put_page.new.out) c.put_page.result)
    c.kind.ensures c.put_page.ensures)
