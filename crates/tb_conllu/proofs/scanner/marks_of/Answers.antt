use Rattle.tb_conllu.proofs.MarkBits.{compared}
use Rattle.tb_conllu.proofs.scanner.marks_of.Goals as goal

pub returns : goal.returns
returns c k = compared c.args.bytes k c.fits-bytes.0 c.fits-bytes.1
