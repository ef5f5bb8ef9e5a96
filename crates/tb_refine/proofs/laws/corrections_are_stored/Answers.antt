use Rattle.tb_refine.proofs.Next.{correction_next}
use Rattle.tb_refine.proofs.laws.corrections_are_stored.Goals as goal

pub returns : goal.returns
returns c = correction_next
