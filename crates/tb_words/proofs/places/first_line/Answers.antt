use Rattle.std.proofs.Common.{sym}
use Rattle.tb_words.proofs.Cuts.{cut_at, cut_nowhere}
use Rattle.tb_words.proofs.places.first_line.Goals as goal

pub returns-in-Some : goal.returns-in-Some
returns-in-Some c = rw c.after.ensures (cut_at c.args.bytes.now c.in-Some.end (sym c.in-Some.ensures.first))

pub returns-in-None : goal.returns-in-None
returns-in-None c = cut_nowhere c.args.bytes.now (sym c.in-None.ensures.first)
