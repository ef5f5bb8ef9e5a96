use Rattle.std.proofs.Common.{◌≡◌, ◌≢◌, ℕ, ◌<◌}
use Rattle.tb_rules.specs.Tree.{walk}
use Rattle.tb_rules.proofs.tree.depth.Given as goal

abbrev pub invariant-loop-steps : goal.invariant-loop-steps
invariant-loop-steps l = record {
  led : l.at ≡ walk l.heads l.steps l.word;
  not_yet : (n : ℕ) → n < l.steps → walk l.heads n l.word ≢ 0;
}
