use Rattle.tb_rules.proofs.Reports.{first_at, none_broken_after}
use Rattle.tb_rules.proofs.Valid.{valid_none}
use Rattle.tb_rules.proofs.laws.broken_rules_of_a_file_are_reported.Goals as goal

pub returns-clause-none : goal.returns-clause-none
returns-clause-none c = none_broken_after

pub returns-clause-first : goal.returns-clause-first
returns-clause-first c = first_at

pub returns-clause-begin : goal.returns-clause-begin
returns-clause-begin c = valid_none
