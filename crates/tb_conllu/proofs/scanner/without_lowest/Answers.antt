use Rattle.tb_conllu.proofs.MarkBits.{without}
use Rattle.tb_conllu.proofs.scanner.without_lowest.Goals as goal

pub returns : goal.returns
returns c low k set below = without low c.args.marks k set below
