use Rattle.tb_http.specs.Asks.{body_limit, reported_by}
use Rattle.tb_desk.proofs.Awaiting.{lacks_or_not}
use Rattle.tb_desk.proofs.arriving.awaits_body.Goals as goal

pub returns-clause-is : goal.returns-clause-is
returns-clause-is c =
    let both = lacks_or_not body_limit c.args.said.now (reported_by c.in_ok-ask.ask) c.in_ok-ask.ensures.asks in (
      λ yes. both.0 (c.lacks_body.ensures.0 yes),
      λ awaits. c.lacks_body.ensures.1 (both.1 awaits),
    )
