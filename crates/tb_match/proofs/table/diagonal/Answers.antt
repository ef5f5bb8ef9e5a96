use Rattle.std.proofs.Common.{arith, ◌≡◌, ◌+◌, ◌*◌, ◌<◌, ◌≤◌, ◌↔◌, ◌⊎◌, length, inl, inr, ⊎_elim, sym, subst, ap}
use Rattle.std.proofs.lemmas.Bool.{cases_lt}
use Rattle.tb_match.specs.Bits.{InTable}
use Rattle.tb_match.proofs.Repeats.{lent}
use Rattle.tb_match.proofs.table.diagonal.Goals as goal

pub loop-place-preserved : goal.loop-place-preserved
loop-place-preserved c =
    let w = c.args.shape.width in
    let place = c.loop-place.place in
    let inv = c.loop-place.invariant in
    let v : c.deref_mut.result.now ≡ c.loop-place.table.items = c.deref_mut.ensures.value in
    let same : length c.deref_mut.result.now ≡ length c.loop-place.table.items = ap length v in
    let back = lent c.loop-place.table.len c.mark.new.table c.loop-place.table.items (omega (arith, c.loop-place.table.ok.0)) in
    record {
      whole = subst (λ xs. length xs ≡ (c.args.shape.last + 1) * w) (sym back) (omega (arith, inv.whole));
      rows = λ i j h.
          let old = subst (λ xs. InTable c.mark.new.table w i j ↔ (InTable xs w i j ⊎ ((i ≡ place) × (j ≡ place)))) v (c.mark.ensures i j h) in
          subst (λ xs. InTable xs w i j ↔ ((i < place + 1) × (i ≡ j))) (sym back) (
            λ p. ⊎_elim (λ o. let r = (inv.rows i j h).0 o in let lt : i < place = r.0 in (omega arith, r.1)) (λ (a, b). (omega arith, omega arith)) (old.0 p),
            λ (lt, e). old.1 (⊎_elim (λ below. inl ((inv.rows i j h).1 (below, e))) (λ (ge : place ≤ i). inr (omega arith, omega arith)) (cases_lt i place)),
          );
    }
