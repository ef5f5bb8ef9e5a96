use Rattle.std.proofs.Common.{◌≡◌, ◌∙◌, sym, subst, drop}
use Rattle.std.proofs.lemmas.List.{take_rest}
use Rattle.tb_host.specs.Contents.{IsBlank}
use Rattle.tb_host.proofs.contents.are_begun.Goals as goal

pub returns-then-is_first_alone : goal.returns-then-is_first_alone
returns-then-is_first_alone c =
    let rest : c.in-Some.first.now ≡ drop 56 c.args.log.now = c.in-Some.ensures.lookup.0.2 ∙ take_rest c.args.log.now 56 in (
      λ yes. (c.in-Some.ensures.lookup.0.0, c.is_first_alone.ensures.0 c.if-is_first_alone.true, subst IsBlank rest (c.is_blank.ensures.0 yes)),
      λ begun. c.is_blank.ensures.1 (subst IsBlank (sym rest) begun.2),
    )
