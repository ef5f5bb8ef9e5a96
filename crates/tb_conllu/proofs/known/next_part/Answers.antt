use Rattle.tb_conllu.proofs.Marked.{first_part}
use Rattle.tb_conllu.proofs.known.next_part.Goals as goal

pub returns : goal.returns
returns c = first_part (λ part. part.now) c.cut.result c.args.cutter.now c.cut.new.self c.cut.ensures
