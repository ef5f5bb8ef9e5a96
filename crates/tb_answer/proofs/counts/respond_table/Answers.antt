use Rattle.std.proofs.Common.{◌∙◌, ℕ, List, Option, None, ap, subst}
use Rattle.tb_http.specs.declared.status.Status.TheVariants.{Ok}
use Rattle.tb_answer.specs.Responses.{IsSent, body_response}
use Rattle.tb_answer.proofs.counts.respond_table.Goals as goal

pub returns-in-Ok : goal.returns-in-Ok
returns-in-Ok g c =
    let plain = ap (λ (rev : Option ℕ). body_response rev c.body_of.result.text.items) c.body_of.ensures.rev ∙ ap (λ (text : List ℕ). body_response None text) c.body_of.ensures.text in
    rw c.in-Ok.is (subst (λ text. IsSent (g.W.Sink.held c.args.out.now) (g.W.Sink.held c.respond_body.new.out) text Ok (g.W.Sink.IsRefusal c.respond_body.new.out) c.respond_body.result) plain c.respond_body.ensures)
