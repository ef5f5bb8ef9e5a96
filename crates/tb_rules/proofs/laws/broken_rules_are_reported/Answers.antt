use Rattle.tb_rules.proofs.Reports.{first_broken, none_broken}
use Rattle.tb_rules.proofs.laws.broken_rules_are_reported.Goals as goal

pub returns-clause-none : goal.returns-clause-none
returns-clause-none c = none_broken

pub returns-clause-first : goal.returns-clause-first
returns-clause-first c = first_broken
