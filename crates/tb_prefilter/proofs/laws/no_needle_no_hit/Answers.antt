use Rattle.tb_query.specs.Search.{Finds}
use Rattle.tb_prefilter.proofs.Needed.{none_found}
use Rattle.tb_prefilter.proofs.laws.no_needle_no_hit.Goals as goal

pub returns : goal.returns
returns c = λ s q b needle needed_here shaped missing. none_found s (Finds q b) (λ i j found. missing (needed_here.there b shaped i j found))
