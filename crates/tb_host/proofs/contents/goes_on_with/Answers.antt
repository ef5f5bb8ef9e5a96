use Rattle.std.proofs.Common.{◌≡◌, ◌∙◌, sym, length, drop}
use Rattle.std.proofs.lemmas.List.{take_rest}
use Rattle.std.proofs.lemmas.Bool.Decides.{Decides-eqb}
use Rattle.std.proofs.lemmas.Slice.Eq.{starts_is}
use Rattle.tb_host.proofs.contents.goes_on_with.Goals as goal

pub returns-in-Some : goal.returns-in-Some
returns-in-Some c =
    let rest : c.in-Some.rest.now ≡ drop 1 c.args.bytes.now = c.in-Some.ensures.lookup.0.2 ∙ take_rest c.args.bytes.now 1 in
    let parts = starts_is Decides-eqb c.in-Some.rest.now c.args.text.now c.starts_with.result c.starts_with.ensures.value in (
      λ yes. record { rest = drop (length c.args.text.now) c.in-Some.rest.now; cut = sym rest ∙ parts.0 yes },
      λ begins. parts.1 begins.rest (rest ∙ begins.cut),
    )
