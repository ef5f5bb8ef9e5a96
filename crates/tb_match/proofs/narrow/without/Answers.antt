use Rattle.std.proofs.Common.{◌<◌, ◌^◌, arith}
use Rattle.tb_match.proofs.Walks.{unknown}
use Rattle.tb_match.proofs.narrow.without.Goals as goal

pub returns-clause-places : goal.returns-clause-places
returns-clause-places c = λ j h.
    let fits = c.ranges.known.fits in
    let small : c.args.known < 2 ^ 64 = omega (arith, fits) in
    unknown c.args.bits c.args.known j small h
