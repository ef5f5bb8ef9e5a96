use Rattle.std.proofs.Common.{◌↔◌, IsTrue, ℕ, List, ◌∙◌, subst}
use Rattle.std.specs.Prelude.{IfOk}
use Rattle.tb_rules.specs.Tree.{IsTree}
use Rattle.tb_rules.proofs.tree.has_tree.Goals as goal

pub returns : goal.returns
returns g c = subst (λ (heads : List ℕ). IfOk c.is_tree.result (λ b. IsTrue b ↔ IsTree heads)) (c.deref.ensures.value ∙ c.in_ok-heads.ensures) c.is_tree.ensures
