use Rattle.std.proofs.Common.{◌++◌, ◌∙◌, ap, ap₂}
use Rattle.tb_assets.specs.Trees.{escaped, trees_head, trees_page, trees_script}
use Rattle.tb_assets.proofs.trees.trees_page.Goals as goal

pub returns : goal.returns
unfolding trees_page
returns c =
    let one = c.in_ok-push_head.ensures ∙ ap (λ l. l ++ trees_head) c.new-page.ensures.items in
    let two = c.in_ok-push_escaped.ensures.escaped ∙ ap (λ l. l ++ escaped c.args.conllu.now) one in
    let three = c.in_ok-push_script.ensures ∙ ap (λ l. l ++ trees_script) two in
    c.in_ok-extend_from_slice.ensures.items ∙ ap₂ (λ a b. a ++ b) three c.as_bytes.ensures.value
