use Rattle.std.proofs.Common.{arith, ◌≡◌, ◌+◌, ◌*◌, ◌-◌, ◌↔◌, ℕ, sym, subst}
use Rattle.tb_match.specs.Bits.{InRow, Link}
use Rattle.tb_match.specs.Match.{Chain}
use Rattle.tb_match.proofs.Limits.{within_all, within_extended, within_from}
use Rattle.tb_match.proofs.bounded.limit_row.Goals as goal

pub returns-then-is_same-clause-row : goal.returns-then-is_same-clause-row
returns-then-is_same-clause-row c = λ j h.
    let whole : InRow c.loop-turn.row 0 j ↔ ((k : ℕ) × Chain (Link c.args.links.now c.args.shape.width c.args.shape.last) k c.args.place j) =
    subst (λ xs. InRow xs 0 j ↔ ((k : ℕ) × Chain (Link c.args.links.now c.args.shape.width c.args.shape.last) k c.args.place j)) (sym (c.is_same.ensures c.if-is_same.true)) (c.requires.closed j h) in
    within_all c.args.links.now c.args.shape.width c.args.shape.last c.loop-turn.row c.loop-turn.turn c.args.times c.args.place j (omega arith) (c.loop-turn.invariant.reached j h) whole

pub extend-requires-clause-from : goal.extend-requires-clause-from
extend-requires-clause-from c = λ k h here.
    within_from c.args.links.now c.args.shape.width c.args.shape.last c.loop-turn.turn c.args.place k ((c.loop-turn.invariant.reached k h).0 here)

pub loop-turn-preserved : goal.loop-turn-preserved
loop-turn-preserved c =
    let inv = c.loop-turn.invariant in
    let e : (c.loop-turn.turn + 1) * (c.args.shape.last + 1 - c.args.place) ≡ c.loop-turn.turn * (c.args.shape.last + 1 - c.args.place) + (c.args.shape.last + 1 - c.args.place) = omega arith in
    record {
      row = omega arith;
      before = omega arith;
      done = omega arith;
      reached = λ j h.
          within_extended c.args.links.now c.args.shape.width c.args.shape.last c.loop-turn.row c.extend.new.row c.loop-turn.turn c.args.place j
          c.requires.forward c.requires.order h inv.reached (c.extend.ensures.extended j h);
      followed = c.extend.ensures.followed;
      more = omega arith;
      bound = omega arith;
    }
