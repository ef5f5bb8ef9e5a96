use Rattle.std.proofs.Common.{◌++◌, ◌∙◌, ap}
use Rattle.tb_page.specs.Heads.{origin_policy}
use Rattle.tb_page.proofs.Pushed.{two, three}
use Rattle.tb_page.proofs.heads.push_policies.Goals as goal

pub returns-clause-bytes : goal.returns-clause-bytes
returns-clause-bytes c =
    let content = three _ _ _ _ _ _ _ c.push_str.ensures.bytes c.push_str-2.ensures.bytes c.push_str-3.ensures.bytes in
    let origin = two _ _ _ _ _ c.push_str-4.ensures.bytes c.push_str-5.ensures.bytes in
    origin ∙ ap (λ bytes. bytes ++ origin_policy) content
