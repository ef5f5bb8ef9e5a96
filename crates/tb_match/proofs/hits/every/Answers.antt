use Rattle.std.proofs.Common.{◌<◌, ◌≤◌, arith}
use Rattle.tb_match.specs.Bits.{Forward}
use Rattle.tb_match.proofs.Filters.{every_more}
use Rattle.tb_match.proofs.hits.every.Goals as goal

pub push_pairs-requires-clause-earlier : goal.push_pairs-requires-clause-earlier
push_pairs-requires-clause-earlier c = λ i j h. ((c.loop-place.invariant.pairs i j).0 h).0

pub loop-place-preserved : goal.loop-place-preserved
loop-place-preserved c =
    let R = Forward c.args.table.now c.args.shape.width c.args.shape.last in
    record {
      ascending = c.in_ok-push_pairs.ensures.ascending;
      pairs = every_more R c.loop-place.place c.loop-place.hits.items c.push_pairs.new.hits.items c.loop-place.invariant.pairs c.in_ok-push_pairs.ensures.pairs;
    }

pub returns : goal.returns
returns c =
    let inv = c.loop-place.invariant in (
      inv.ascending,
      λ i j. (
        λ h. ((inv.pairs i j).0 h).1,
        λ r. let a : i < j = r.0 in let b : j ≤ c.args.shape.last = r.1 in (inv.pairs i j).1 (omega arith, r),
      ),
    )
