use Rattle.std.proofs.Common.{arith, ◌≡◌, ◌+◌, ◌<◌, ◌≤◌, inl, inr, ⊎_elim, refl, subst}
use Rattle.std.proofs.lemmas.Bool.{cases_order}
use Rattle.tb_match.specs.Hits.{IsWord}
use Rattle.tb_match.proofs.Runs.{Run, run_more, run_ends}
use Rattle.tb_match.proofs.token.run_row.Goals as goal

pub loop-place-preserved : goal.loop-place-preserved
loop-place-preserved c =
    let w = c.args.shape.width in
    let row = c.args.row in
    let t = c.args.truth.now in
    let e = c.args.expr in
    let last = c.args.shape.last in
    let place = c.loop-place.place in
    let inv = c.loop-place.invariant in
    let after = c.next_place-place-in-loop-place.ensures in
    let marked = c.mark_step.ensures.marked in
    let here = inv.there c.loop-place-test.true in
    record {
      whole = omega arith;
      upto = after.limit;
      there = after.there;
      kept = λ i j h p. (marked i j (omega arith)).1 (inl (inv.kept i j h p));
      others = λ i j ne h p. ⊎_elim (λ q. inv.others i j ne h q) (λ q. absurd (ne q.0)) ((marked i j (omega arith)).0 p);
      sound = λ j h p. ⊎_elim
          (λ q. inv.sound j h q)
          (λ q. ⊎_elim (λ f. absurd f.0) (λ word. run_more c.args.table.now w row last t e place j (inv.sound place c.loop-place-test.true here) word) q.1)
          ((marked row j (omega arith)).0 p);
      closed = λ m j lt le word p.
          let inside : j ≤ t.words = word.1.1 in
          let put = (marked row j inside).1 in
          ⊎_elim
          (λ (same : m ≡ place). put (inr (refl, inr (subst (λ x. IsWord t e x j) same word))))
          (λ h. ⊎_elim
          (λ (below : m < place). ⊎_elim
          (λ q. put (inl (inv.closed m j below le word q)))
          (λ q. ⊎_elim (λ f. absurd f.0) (λ f. let next : m ≡ place + 1 = f.0 in absurd (omega arith)) q.1)
          ((marked row m (omega arith)).0 p))
          (λ (above : place < m). absurd (after.none m (omega arith) lt p))
          h)
          (cases_order m place);
    }

pub returns-clause-row : goal.returns-clause-row
returns-clause-row c = λ j h.
    let w = c.args.shape.width in
    let row = c.args.row in
    let t = c.args.truth.now in
    let e = c.args.expr in
    let last = c.args.shape.last in
    let inv = c.loop-place.invariant in
    let count : last ≡ t.words = c.requires.words in
    let past = c.loop-place-test.false in (
      λ p. subst (λ n. Run c.args.table.now w row n t e j) count (inv.sound j (omega arith) p),
      λ (k, le, r, (n, links)). run_ends c.loop-place.table w row last t e
          (λ m i word. (let q : i ≤ t.words = word.1.1 in omega arith))
          (λ m i short word q. inv.closed m i (omega arith) short word q)
          n k j (omega arith) (inv.kept row k (omega arith) r) links,
    )
