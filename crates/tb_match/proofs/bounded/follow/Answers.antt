use Rattle.std.proofs.Common.{arith, ◌≡◌, ◌<◌, ◌≤◌, ◌+◌, ◌↔◌, ◌⊎◌, ℕ, inl, inr, ⊎_elim, subst}
use Rattle.std.proofs.lemmas.Bool.{cases_lt}
use Rattle.tb_match.specs.Bits.{InRow, InTable}
use Rattle.tb_match.proofs.Rows.{united_row, row_size, row_room, word_of}
use Rattle.tb_match.proofs.bounded.follow.Goals as goal

pub loop-place-preserved : goal.loop-place-preserved
loop-place-preserved c =
    let L = c.args.links.now in
    let w = c.args.shape.width in
    let place = c.loop-place.place in
    let row = c.loop-place.row in
    let row' = c.unite.new.to in
    let inv = c.loop-place.invariant in
    let after = c.next_unknown-place-in-loop-place.ensures in
    let below : place < c.args.shape.last + 1 = omega arith in
    let on = after.order (omega arith) in
    let limit = after.limit in
    let united : (j : ℕ) → j ≤ c.args.shape.last → InRow row' 0 j ↔ (InRow row 0 j ⊎ InTable L w place j) = λ j h.
    united_row row row' L w place j _ inv.wide (row_size place w) (word_of j c.args.shape.last w h c.args.shape.wide)
    (omega (arith, row_room place c.args.shape.last w below)) (rw c.row.ensures.words at c.unite.ensures.words) in
    record {
      from = omega arith;
      upto = limit;
      wide = omega arith;
      only = λ j h p. ⊎_elim
          (λ old. inv.only j h old)
          (λ fresh. inr (place, omega arith, inv.next c.loop-place-test.true, fresh))
          ((united j h).0 p);
      kept = λ j h p. (united j h).1 (inl (inv.kept j h p));
      followed = λ k j from lt h here link. ⊎_elim
          (λ (sooner : k < place). ⊎_elim (λ d. inl d) (λ r. inr ((united j h).1 (inl r))) (inv.followed k j from sooner h here link))
          (λ (ge : place ≤ k). ⊎_elim
          (λ (l8r : place < k). inl (after.none k (omega arith) lt here))
          (λ (le : k ≤ place). let e : k ≡ place = omega arith in inr ((united j h).1 (inr (subst (λ x. InTable L w x j) e link))))
          (cases_lt place k))
          (cases_lt k place);
      next = after.there;
      more = omega arith;
      bound = omega arith;
    }
