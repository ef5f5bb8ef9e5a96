use Rattle.std.proofs.Common.{ℕ, drop, ◌+◌, ◌*◌}
use Rattle.tb_match.specs.Facts.{Holds}
use Rattle.tb_match.specs.Possible.{PartsMatch, PartsMayMatch}
use Rattle.tb_match.specs.Trees.{tree, trees}
use Rattle.tb_match.specs.Weight.{AllProper, weight_of, weight_of_all}
use Rattle.tb_match.proofs.possible.+can_match.Given as goal

abbrev pub invariant-can_parts_match-loop-part : goal.invariant-can_parts_match-loop-part
invariant-can_parts_match-loop-part l = record {
  proper : AllProper l.truth.exprs (trees (drop l.part-index l.parts));
  so_far : PartsMayMatch l.all l.truth (trees (drop l.part-index l.parts)) → PartsMayMatch l.all l.truth (trees l.parts);
  rest : (i j : ℕ) → PartsMatch l.all (Holds l.truth) (trees l.parts) i j → (m : ℕ) × PartsMatch l.all (Holds l.truth) (trees (drop l.part-index l.parts)) m j;
}

-- a pattern is heavier than what stands in it
abbrev pub decreases-can_match : goal.decreases-can_match
decreases-can_match l = 2 * weight_of (tree l.pat.now) + 1

abbrev pub decreases-can_parts_match : goal.decreases-can_parts_match
decreases-can_parts_match l = 2 * weight_of_all (trees l.parts.now)
