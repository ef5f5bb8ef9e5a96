use Rattle.std.proofs.Common.{◌∙◌, sym, subst}
use Rattle.memchr.specs.Find.{FindsNeedle}
use Rattle.tb_host.proofs.Shown.{found_is_there}
use Rattle.tb_host.proofs.contents.has.Goals as goal

pub returns : goal.returns
returns c =
    let parts = found_is_there c.args.bytes.now c.args.text.now c.find.result (subst (λ n. FindsNeedle c.args.bytes.now n 0 c.find.result) c.as_bytes.ensures.value c.find.ensures) in (
      λ yes. parts.0 (sym c.is_some.ensures ∙ yes),
      λ there. c.is_some.ensures ∙ parts.1 there,
    )
