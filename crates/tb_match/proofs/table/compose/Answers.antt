use Rattle.std.proofs.Common.{arith, ◌≡◌, ◌+◌, ◌-◌, ◌<◌, ◌≤◌, subst, ⊎_elim}
use Rattle.std.proofs.lemmas.Bool.{cases_lt}
use Rattle.tb_match.specs.Bits.{Link, triangle}
use Rattle.tb_match.proofs.Sweeps.{composed, triangle_step}
use Rattle.tb_match.proofs.table.compose.Goals as goal

pub loop-place-preserved : goal.loop-place-preserved
loop-place-preserved c =
    let inv = c.loop-place.invariant in
    let step : triangle (c.args.shape.last + 1 - c.loop-place.place) ≡ (c.args.shape.last + 1 - c.loop-place.place) + triangle (c.args.shape.last + 1 - (c.loop-place.place + 1)) = triangle_step _ _ (omega arith) in
    record {
      wide = omega arith;
      whole = omega arith;
      done = λ i j below here.
          composed c.args.links.now c.args.table.now c.loop-place.table c.set_row.new.table c.args.shape.width c.args.shape.last c.loop-place.place i j
          inv.done inv.rest c.set_row.ensures.row c.set_row.ensures.others below here;
      rest = λ i j from here.
          let o = c.set_row.ensures.others i j (λ e. omega arith) here in
          let r = inv.rest i j (omega arith) here in
          (λ h. r.0 (o.0 h), λ h. o.1 (r.1 h));
      counted = λ i below j link. ⊎_elim
          (λ (sooner : i < c.loop-place.place). let before = inv.counted i sooner j link in omega arith)
          (λ (at : c.loop-place.place ≤ i). let e : i ≡ c.loop-place.place = omega arith in
          let now = c.set_row.ensures.counted j (subst (λ x. Link c.args.links.now c.args.shape.width c.args.shape.last x j) e link) in omega arith)
          (cases_lt i c.loop-place.place);
      more = omega arith;
      bound = omega arith;
    }

pub set_row-requires-clause-closed : goal.set_row-requires-clause-closed
set_row-requires-clause-closed c = λ is i k j from p q r here row.
    let inv = c.loop-place.invariant in
    let old = (inv.rest i k from q).0 here in
    let on : i ≤ k = c.requires.forward is i k p q old in
    let onward : c.loop-place.place ≤ k = omega arith in
    (inv.rest i j from r).1 (c.requires.closed is i k j (omega arith) p q r old ((inv.rest k j onward r).0 row))
