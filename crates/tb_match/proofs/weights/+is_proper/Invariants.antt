use Rattle.std.proofs.Common.{◌↔◌, drop}
use Rattle.tb_match.specs.Trees.{trees}
use Rattle.tb_match.specs.Weight.{AllProper}
use Rattle.tb_match.proofs.weights.+is_proper.Given as goal

abbrev pub invariant-are_proper-loop-part : goal.invariant-are_proper-loop-part
invariant-are_proper-loop-part l = AllProper l.exprs (trees (drop l.part-index l.parts)) ↔ AllProper l.exprs (trees l.parts)
