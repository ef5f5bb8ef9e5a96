use Rattle.tb_conllu.proofs.MarkedBytes.{padded}
use Rattle.tb_conllu.proofs.scanner.filled_up.Goals as goal

pub returns : goal.returns
returns c k = rw c.copy_from_slice.ensures.after (padded c.args.rest.now 64 k)
