use Rattle.std.proofs.Common.{arith, ◌≡◌, ◌+◌, ◌-◌, ◌<◌, ◌≤◌, ◌↔◌, sym, subst, ⊎_elim}
use Rattle.std.proofs.lemmas.Bool.{cases_lt}
use Rattle.tb_match.specs.Bits.{InTable, Within}
use Rattle.tb_match.proofs.Limits.{both_true, turns_step}
use Rattle.tb_match.proofs.bounded.limit.Goals as goal

pub limit_place-same-requires-clause-countable : goal.limit_place-same-requires-clause-countable
limit_place-same-requires-clause-countable c =
    let place = c.loop-place.place in
    let step = turns_step c.args.times (c.args.shape.last + 1 - place) (c.args.shape.last + 1 - (place + 1)) (omega arith) in
    omega (arith, step)

pub limit_place-same-requires-clause-closed : goal.limit_place-same-requires-clause-closed
limit_place-same-requires-clause-closed c = λ j h.
    let r = c.loop-place.invariant.rest c.loop-place.place j (omega arith) h in
    let q = c.requires.closed c.loop-place.place j (omega arith) h in
    (λ p. q.0 (r.0 p), λ p. r.1 (q.1 p))

pub loop-place-preserved : goal.loop-place-preserved
loop-place-preserved c =
    let inv = c.loop-place.invariant in
    let place = c.loop-place.place in
    let w = c.args.shape.width in
    let done = c.limit_place-same.ensures in
    let step = turns_step c.args.times (c.args.shape.last + 1 - place) (c.args.shape.last + 1 - (place + 1)) (omega arith) in
    record {
      spare = omega arith;
      before = omega arith;
      done = omega arith;
      whole = omega arith;
      rows = λ i j below h. ⊎_elim
          (λ (lt : i < place).
          let o = done.others i j (λ e. omega arith) h in
          let r = inv.rows i j lt h in
          (λ p. r.0 (o.0 p), λ p. o.1 (r.1 p)))
          (λ (ge : place ≤ i).
          let e : i ≡ place = omega arith in
          subst (λ x. InTable c.limit_place-same.new.table w x j ↔ Within c.args.links.now w c.args.shape.last c.args.times x j) (sym e) (done.row j h))
          (cases_lt i place);
      rest = λ i j from h.
          let o = done.others i j (λ e. omega arith) h in
          let r = inv.rest i j (omega arith) h in
          (λ p. r.0 (o.0 p), λ p. o.1 (r.1 p));
      same = λ is i j below h. let both = both_true _ _ is in ⊎_elim
          (λ (lt : i < place).
          let o = done.others i j (λ e. omega arith) h in
          let r = inv.same both.0 i j lt h in
          (λ p. r.0 (o.0 p), λ p. o.1 (r.1 p)))
          (λ (ge : place ≤ i).
          let e : i ≡ place = omega arith in
          let o = done.unchanged both.1 j h in
          let r = inv.rest place j (omega arith) h in
          subst (λ x. InTable c.limit_place-same.new.table w x j ↔ InTable c.args.table.now w x j) (sym e) (λ p. r.0 (o.0 p), λ p. o.1 (r.1 p)))
          (cases_lt i place);
      more = omega arith;
      bound = omega (arith, step);
    }
