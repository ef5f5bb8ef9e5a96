use Rattle.std.proofs.Common.{◌≡◌, ◌+◌, ◌-◌, arith, refl, subst, below_more}
use Rattle.tb_rules.specs.Tree.{ReachesRoot}
use Rattle.tb_rules.proofs.Walks.{reaches}
use Rattle.tb_rules.proofs.tree.all_reach_root.Goals as goal

pub loop-k-preserved : goal.loop-k-preserved
loop-k-preserved c =
    let heads = c.args.heads.now in
    record {
      reached = below_more (λ j. ReachesRoot heads (j + 1)) c.loop-k.k c.loop-k.invariant.reached (reaches heads (c.loop-k.k + 1) c.in-Some.depth c.in-Some.ensures.0 c.in-Some.ensures.1);
      exact = c.note_depths.ensures.known;
    }

pub returns : goal.returns
returns c = (
  λ _ k low high.
      let e : k - 1 + 1 ≡ k = omega arith in
      subst (ReachesRoot c.args.heads.now) e (c.loop-k.invariant.reached (k - 1) (omega arith)),
  λ _. refl,
)
