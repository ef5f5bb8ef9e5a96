use Rattle.std.proofs.Common.{arith, ◌≡◌, ◌+◌, ◌-◌, ◌<◌, ◌≤◌, ◌↔◌, ℕ, subst, ⊎_elim}
use Rattle.std.proofs.lemmas.Bool.{cases_lt}
use Rattle.tb_match.specs.Bits.{InTable, Link, Through, triangle}
use Rattle.tb_match.proofs.Sweeps.{composed, triangle_step}
use Rattle.tb_match.proofs.doubling.square.Goals as goal

pub loop-place-preserved : goal.loop-place-preserved
loop-place-preserved c =
    let inv = c.loop-place.invariant in
    let L = c.args.links.now in
    let T = c.loop-place.links in
    let w = c.args.shape.width in
    let last = c.args.shape.last in
    let place = c.loop-place.place in
    let step : triangle (last + 1 - place) ≡ (last + 1 - place) + triangle (last + 1 - (place + 1)) = triangle_step _ _ (omega arith) in
    let row : (j : ℕ) → j ≤ last → InTable c.square_row.new.links w place j ↔ Through L T w place (last + 1) j = λ j h.
    let r = c.square_row.ensures.row j h in (
      λ p. let t = r.0 p in let inside : t.0 ≤ last = let lt : t.0 < last + 1 = t.2 in omega arith in (t.0, t.1, t.2, (inv.rest place t.0 (omega arith) inside).0 t.3, t.4),
      λ (k, le, lt, link, to). r.1 (k, le, lt, (inv.rest place k (omega arith) (omega arith)).1 link, to),
    ) in
    record {
      wide = omega arith;
      whole = omega arith;
      done = λ i j below here.
          composed L L T c.square_row.new.links w last place i j
          inv.done inv.rest row c.square_row.ensures.others below here;
      rest = λ i j from here.
          let o = c.square_row.ensures.others i j (λ e. omega arith) here in
          let r = inv.rest i j (omega arith) here in
          (λ h. r.0 (o.0 h), λ h. o.1 (r.1 h));
      counted = λ i below j link. ⊎_elim
          (λ (sooner : i < place). let before = inv.counted i sooner j link in omega arith)
          (λ (at : place ≤ i). let e : i ≡ place = omega arith in
          let here = subst (λ x. Link L w last x j) e link in
          let now = c.square_row.ensures.counted j (here.0, here.1, (inv.rest place j (omega arith) here.1).1 here.2) in omega arith)
          (cases_lt i place);
      more = omega arith;
      bound = omega arith;
    }

pub square_row-requires-clause-closed : goal.square_row-requires-clause-closed
square_row-requires-clause-closed c = λ is i k j from p q r here row.
    let inv = c.loop-place.invariant in
    let old = (inv.rest i k from q).0 here in
    let on : i ≤ k = c.requires.onward i k p q old in
    let onward : c.loop-place.place ≤ k = omega arith in
    (inv.rest i j from r).1 (c.requires.closed is i k j (omega arith) p q r old ((inv.rest k j onward r).0 row))
