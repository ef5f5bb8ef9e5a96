use Rattle.std.proofs.lemmas.Simd.{get_or-chunk}
use Rattle.tb_conllu.proofs.scanner.loaded.Goals as goal

pub returns : goal.returns
returns c k l = get_or-chunk c.args.base 64 c.args.bytes.now k 0 l
