use Rattle.tb_rules.proofs.Broken.{whole_broken}
use Rattle.tb_rules.proofs.breaking.tree_row.Goals as goal

pub returns : goal.returns
returns g c = whole_broken _ c.in_ok-has_tree.field-0 c.row_unless.result c.in_ok-has_tree.ensures c.row_unless.ensures
