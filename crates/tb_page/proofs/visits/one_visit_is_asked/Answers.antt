use Rattle.tb_page.proofs.Begun.{one_visit}
use Rattle.tb_page.proofs.visits.one_visit_is_asked.Goals as goal

pub returns : goal.returns
returns c = one_visit
