use Rattle.std.proofs.Common.{◌≡◌, subst}
use Rattle.tb_assets.specs.Trees.{trees_page}
use Rattle.tb_answer.proofs.views.tree_text.Goals as goal

pub returns-in-Ok-clause-text : goal.returns-in-Ok-clause-text
returns-in-Ok-clause-text c = subst (λ t. c.in-Ok.page.items ≡ trees_page t) c.as_bytes.ensures.value c.in-Ok.ensures
