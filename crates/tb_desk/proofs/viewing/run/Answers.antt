use Rattle.std.proofs.Common.{refl}
use Rattle.tb_desk.proofs.viewing.run.Goals as goal

pub returns-in-Page : goal.returns-in-Page
returns-in-Page g c = rw c.in-Page.is (refl, c.run_page.ensures)

pub returns-in-List : goal.returns-in-List
returns-in-List g c = rw c.in-List.is (refl, c.run_list.ensures)
