use Rattle.std.proofs.Common.{◌≡◌, arith, ⊎_elim, inl, inr, subst}
use Rattle.std.specs.Int.{bit_at}
use Rattle.tb_match.proofs.Masks.{reach_more, reach_all, row_place}
use Rattle.tb_match.proofs.narrow.run_word.Goals as goal

pub loop-next-preserved : goal.loop-next-preserved
loop-next-preserved c =
    let row = c.args.row in
    let ends = c.args.ends in
    let inv = c.loop-next.invariant in
    let after = c.step_word-next-in-loop-next.ensures in
    record {
      kept = λ j h p. (inv.longer j h).1 (inl (inv.kept j h p));
      sound = λ j h p. reach_more row c.loop-next.all ends j inv.sound h ((inv.longer j h).0 p);
      longer = λ j h. (
        λ p. ⊎_elim (λ a. inl a.1) (λ b. inr b) ((after.places j h).0 p),
        λ p. (after.places j h).1 (⊎_elim (λ a. inl (tt, a)) (λ b. inr b) p),
      );
      grown = after.grows tt;
    }

pub returns : goal.returns
returns c = λ j h.
    let inv = c.loop-next.invariant in
    let same : c.loop-next.next ≡ c.loop-next.all = c.loop-next-test.false in (
      λ p. inv.sound j h p,
      λ (k, p, (n, links)).
          reach_all c.loop-next.all c.args.ends
          (λ i q o. subst (λ x. bit_at x i ≡ 1) same ((inv.longer i q).1 (inr o)))
          n k j h (inv.kept k (row_place c.args.row k (omega (arith, c.ranges.row.fits)) p) p) links,
    )
