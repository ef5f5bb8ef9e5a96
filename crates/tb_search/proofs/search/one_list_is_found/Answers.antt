use Rattle.tb_search.proofs.Found.{one_found}
use Rattle.tb_search.proofs.search.one_list_is_found.Goals as goal

pub returns : goal.returns
returns c = one_found
