use Rattle.tb_check.proofs.check.check_source.Goals as goal

pub returns : goal.returns
returns g c = (c.read_all-input.result, c.read_all-input.ensures.came, c.read_all-input.ensures.asked, c.check_input.ensures)
