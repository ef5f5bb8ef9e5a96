use Rattle.tb_refine.proofs.Next.{pull_next}
use Rattle.tb_refine.proofs.laws.pulls_are_stored.Goals as goal

pub returns : goal.returns
returns c = pull_next
