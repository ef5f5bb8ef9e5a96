use Rattle.std.proofs.Common.{ℕ, ◌+◌, ◌<◌}
use Rattle.tb_rules.specs.Tree.{ReachesRoot}
use Rattle.tb_rules.specs.Depths.{AreDepths}
use Rattle.tb_rules.proofs.tree.all_reach_root.Given as goal

abbrev pub invariant-loop-k : goal.invariant-loop-k
invariant-loop-k l = record {
  reached : (j : ℕ) → j < l.k → ReachesRoot l.heads (j + 1);
  exact : AreDepths l.heads l.depths;
}
