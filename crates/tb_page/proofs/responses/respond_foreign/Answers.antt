use Rattle.std.proofs.Common.{subst, sym}
use Rattle.tb_http.specs.declared.status.Status.TheVariants.{Forbidden}
use Rattle.tb_answer.specs.Responses.{IsSent}
use Rattle.tb_page.specs.Answered.{foreign_response}
use Rattle.tb_page.proofs.responses.respond_foreign.Goals as goal

pub returns-in-Host : goal.returns-in-Host
returns-in-Host g c =
    subst (λ why. IsSent (g.W.Sink.held c.args.out.now) (g.W.Sink.held c.put_page.new.out) (foreign_response why) Forbidden (g.W.Sink.IsRefusal c.put_page.new.out) c.put_page.result)
    (sym c.in-Host.is) c.put_page.ensures

pub returns-in-Origin : goal.returns-in-Origin
returns-in-Origin g c =
    subst (λ why. IsSent (g.W.Sink.held c.args.out.now) (g.W.Sink.held c.put_page-in-Origin.new.out) (foreign_response why) Forbidden (g.W.Sink.IsRefusal c.put_page-in-Origin.new.out) c.put_page-in-Origin.result)
    (sym c.in-Origin.is) c.put_page-in-Origin.ensures
