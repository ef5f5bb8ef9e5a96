use Rattle.tb_rules.proofs.Kept.{not_kept}
use Rattle.tb_rules.proofs.laws.a_broken_rule_is_not_kept.Goals as goal

pub returns : goal.returns
returns c = not_kept
