use Rattle.std.proofs.Common.{arith, ◌≡◌, ◌+◌, ◌-◌, ◌<◌, ◌≤◌, subst, sym, ◌∙◌, ⊎_elim}
use Rattle.std.proofs.lemmas.Bool.{cases_lt}
use Rattle.tb_match.specs.Bits.{Link, triangle}
use Rattle.tb_match.proofs.Sweeps.{closed, all_closed, triangle_step, triangle_le}
use Rattle.tb_match.proofs.table.close.Goals as goal

pub set_closed_row-requires-clause-countable : goal.set_closed_row-requires-clause-countable
set_closed_row-requires-clause-countable c =
    let p = c.loop-place.place in
    let step : triangle (c.args.shape.last + 1 - (p - 1)) ≡ (c.args.shape.last + 1 - (p - 1)) + triangle (c.args.shape.last + 1 - p) = triangle_step _ _ (omega arith) in
    let le : triangle (c.args.shape.last + 1 - (p - 1)) ≤ triangle (c.args.shape.last + 1) = triangle_le _ _ (omega arith) in
    omega arith

pub set_closed_row-requires-clause-closed : goal.set_closed_row-requires-clause-closed
set_closed_row-requires-clause-closed c =
    all_closed c.args.links.now c.loop-place.table c.args.shape.width c.args.shape.last c.loop-place.place c.loop-place.invariant.done c.loop-place.invariant.empty _

pub loop-place-preserved : goal.loop-place-preserved
loop-place-preserved c =
    let inv = c.loop-place.invariant in
    let step : triangle (c.args.shape.last + 1 - (c.loop-place.place - 1)) ≡ (c.args.shape.last + 1 - (c.loop-place.place - 1)) + triangle (c.args.shape.last + 1 - c.loop-place.place) = triangle_step _ _ (omega arith) in
    record {
      upto = omega arith;
      wide = omega arith;
      whole = omega arith;
      done = λ i j from inside here.
          closed c.args.links.now c.loop-place.table c.set_closed_row.new.table c.args.shape.width c.args.shape.last (c.loop-place.place - 1) c.loop-place.place i j (omega arith) (omega arith)
          inv.done inv.empty c.set_closed_row.ensures.row c.set_closed_row.ensures.others from inside here;
      empty = λ i j below here h. inv.empty i j (omega arith) here ((c.set_closed_row.ensures.others i j (λ e. omega arith) here).0 h);
      counted = λ i k from link other. ⊎_elim
          (λ (at : i < c.loop-place.place). let e : i ≡ c.loop-place.place - 1 = omega arith in
          let now = c.set_closed_row.ensures.counted k (subst (λ x. Link c.args.links.now c.args.shape.width c.args.shape.last x k) e link) (λ same. other (same ∙ sym e)) in omega arith)
          (λ (later : c.loop-place.place ≤ i). let before = inv.counted i k later link other in omega arith)
          (cases_lt i c.loop-place.place);
      more = omega arith;
      bound = omega arith;
    }
