use Rattle.std.proofs.Common.{arith}
use Rattle.tb_conllu.proofs.sentences.Sentences.read_next.Goals as goal

pub invariant_of-self : goal.invariant_of-self
invariant_of-self c =
    let found = c.in_ok-found.ensures in
    let room = found.room in
    let before = c.self.invariant in
    (omega (arith, room, before.0), found.tested)
