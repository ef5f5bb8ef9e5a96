use Rattle.std.proofs.Common.{inr}
use Rattle.tb_desk.proofs.serving.serve_in_file.Goals as goal

pub returns-in-Ok : goal.returns-in-Ok
returns-in-Ok g c = inr c.serve.ensures.ended
