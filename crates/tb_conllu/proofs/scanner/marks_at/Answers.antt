use Rattle.std.proofs.Common.{◌∙◌}
use Rattle.tb_conllu.proofs.MarkedBytes.{begun, read_after}
use Rattle.tb_conllu.proofs.scanner.marks_at.Goals as goal

pub returns-then-bytes-base-ge64 : goal.returns-then-bytes-base-ge64
returns-then-bytes-base-ge64 c = begun c.args.bytes.now c.args.base c.marks_of.result c.loaded.result c.requires c.marks_of.ensures c.loaded.ensures

pub returns : goal.returns
returns c = begun c.args.bytes.now c.args.base c.marks_of-2.result c.filled_up.result c.requires c.marks_of-2.ensures (λ k l. c.filled_up.ensures k ∙ read_after c.args.bytes.now c.args.base k)
