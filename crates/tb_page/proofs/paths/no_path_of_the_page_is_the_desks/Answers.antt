use Rattle.tb_page.proofs.OwnPaths.{no_place}
use Rattle.tb_page.proofs.paths.no_path_of_the_page_is_the_desks.Goals as goal

pub returns : goal.returns
returns c = no_place
