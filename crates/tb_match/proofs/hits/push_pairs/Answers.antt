use Rattle.std.proofs.Common.{◌≡◌, ◌+◌, ◌<◌, ◌≤◌, ◌⊎◌, ◌↔◌, ◌∷◌, [], ◌++◌, arith, sym, subst, inl, inr, ⊎_elim}
use Rattle.std.specs.List.{AllPairs, Contains}
use Rattle.tb_match.specs.Bits.{Forward}
use Rattle.tb_match.specs.Hits.{ComesBefore}
use Rattle.tb_match.proofs.Filters.{pairs_ascending, pairs_pushed, pairs_over}
use Rattle.tb_match.proofs.hits.push_pairs.Goals as goal

pub loop-end-preserved : goal.loop-end-preserved
loop-end-preserved c =
    let R = Forward c.args.table.now c.args.shape.width c.args.shape.last in
    let place = c.args.place in
    let end = c.loop-end.end in
    let old = c.args.hits.now.items in
    let xs = c.loop-end.hits.items in
    let inv = c.loop-end.invariant in
    let after = c.next_place-end-in-loop-end.ensures in
    let next = c.next_place-end-in-loop-end.result in
    let inside : end ≤ c.args.shape.last = c.loop-end-test.true in
    let there : R place end = inv.next inside in
    let on = after.order (omega arith) in
    let made : c.push.new.self.items ≡ xs ++ (place, end) ∷ [] = c.in_ok-push.ensures.items in
    let pushed = pairs_pushed R place end old xs inv.pairs there in
    record {
      upto = after.limit;
      next = λ h. (omega (arith, there.0, on), h, after.there h);
      ascending = subst (AllPairs ComesBefore) (sym made) (pairs_ascending R place end old xs inv.pairs inv.ascending c.requires.earlier);
      pairs = λ i j. subst (λ ys. Contains ys (i, j) ↔ (Contains old (i, j) ⊎ ((i ≡ place) × (j < next) × R place j))) (sym made)
          (pairs_over R place (end + 1) old (xs ++ (place, end) ∷ []) pushed next on (λ k a b r. after.none k a b r.2) i j);
    }

pub returns-clause-pairs : goal.returns-clause-pairs
returns-clause-pairs c = λ i j.
    let inv = c.loop-end.invariant in
    let over = c.loop-end-test.false in (
      λ h. ⊎_elim (λ o. inl o) (λ (e, lt, r). inr (e, r)) ((inv.pairs i j).0 h),
      λ h. (inv.pairs i j).1 (⊎_elim (λ o. inl o) (λ (e, r). let le : j ≤ c.args.shape.last = r.1 in inr (e, omega arith, r)) h),
    )
