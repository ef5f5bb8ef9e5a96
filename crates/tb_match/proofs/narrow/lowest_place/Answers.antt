use Rattle.std.proofs.Common.{arith}
use Rattle.tb_match.proofs.Walks.{lowest}
use Rattle.tb_match.proofs.narrow.lowest_place.Goals as goal

pub returns : goal.returns
returns c =
    let fits = c.ranges.bits.fits in
    let low = lowest c.args.bits c.requires (omega (arith, fits)) in
    record {
      limit = low.0;
      there = low.1;
      least = low.2;
    }
