use Rattle.tb_literal.proofs.Deciding.{accepted_or_refused}
use Rattle.tb_literal.proofs.law.a_literal_is_accepted_or_refused.Goals as goal

pub returns : goal.returns
returns c = accepted_or_refused
