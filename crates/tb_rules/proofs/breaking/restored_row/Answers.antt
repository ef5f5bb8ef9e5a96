use Rattle.tb_rules.proofs.Broken.{whole_broken}
use Rattle.tb_rules.proofs.breaking.restored_row.Goals as goal

pub returns : goal.returns
returns g c = whole_broken _ c.in_ok-is_restored.field-0 c.row_unless.result c.in_ok-is_restored.ensures.value c.row_unless.ensures
