use Rattle.std.proofs.Common.{arith, refl}
use Rattle.httparse.specs.Spans.{IsRequestOf, IsRequestWithin}
use Rattle.tb_desk.proofs.Awaiting.{lacks_at}
use Rattle.tb_desk.proofs.arriving.awaited_after.Goals as goal

pub returns-in-Ok-Complete : goal.returns-in-Ok-Complete
returns-in-Ok-Complete c =
    let headers = c.parse_request.new.headers in
    let spans = c.in-Ok-Complete.spans in
    let complete : IsRequestOf c.args.said.now headers spans = rw c.in-Ok-Complete.field-0-is at c.in-Ok-Complete.ensures.complete in
    let within : IsRequestWithin c.args.said.now headers spans = rw c.in-Ok-Complete.field-0-is at c.in-Ok-Complete.ensures.within in
    lacks_at c.args.said.now headers spans c.length_said-length.result _ complete c.length_said-length.ensures
    (λ n is small. omega (arith, c.saturating_add.ensures, is, small, within.section.len_fits))
    (c.if-awaits_rest.ensures.more refl)
