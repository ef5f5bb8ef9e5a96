use Rattle.tb_prefilter.proofs.Needed.{is_needed_by}
use Rattle.tb_prefilter.proofs.laws.a_hit_has_what_it_needs.Goals as goal

pub returns : goal.returns
returns c = is_needed_by
