use Rattle.std.proofs.Common.{◌-◌, arith}
use Rattle.tb_match.proofs.Walks.{masked}
use Rattle.tb_match.proofs.walk.bits_from.Goals as goal

pub returns-else-from-base : goal.returns-else-from-base
returns-else-from-base c = λ i h.
    let m = masked c.args.word (c.args.from - c.args.base) i (omega arith) h in
    (λ p. let r = m.0 p in (r.0, omega (arith, r.1)), λ p. m.1 (p.0, omega (arith, p.1)))
