use Rattle.std.proofs.Common.{◌≡◌, ◌+◌, ◌≤◌, drop}
use Rattle.tb_match.specs.Trees.{trees}
use Rattle.tb_match.specs.Weight.{weight_of_all}
use Rattle.tb_match.proofs.weights.+weight.Given as goal

abbrev pub invariant-weight_of_parts-loop-part : goal.invariant-weight_of_parts-loop-part
invariant-weight_of_parts-loop-part l = record {
  limit : l.sum ≤ 1000000;
  rest : l.sum + weight_of_all (trees (drop l.part-index l.parts)) ≡ weight_of_all (trees l.parts);
}
