use Rattle.tb_rules.proofs.OneRule.{one_rule}
use Rattle.tb_rules.proofs.laws.one_rule_is_reported.Goals as goal

pub returns : goal.returns
returns c = one_rule
