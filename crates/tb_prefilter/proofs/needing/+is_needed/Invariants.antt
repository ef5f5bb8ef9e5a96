use Rattle.std.proofs.Common.{◌≡◌, drop, ◌+◌, ◌*◌}
use Rattle.tb_match.specs.Trees.{tree, trees}
use Rattle.tb_match.specs.Weight.{weight_of, weight_of_all}
use Rattle.tb_prefilter.specs.Needed.{some_needs}
use Rattle.tb_prefilter.proofs.needing.+is_needed.Given as goal

abbrev pub invariant-is_needed_by_some-loop-part : goal.invariant-is_needed_by_some-loop-part
invariant-is_needed_by_some-loop-part l = some_needs (trees l.parts) l.expr ≡ some_needs (trees (drop l.part-index l.parts)) l.expr

-- a pattern is heavier than what stands in it
abbrev pub decreases-is_needed : goal.decreases-is_needed
decreases-is_needed l = 2 * weight_of (tree l.pat.now) + 1

abbrev pub decreases-is_needed_by_some : goal.decreases-is_needed_by_some
decreases-is_needed_by_some l = 2 * weight_of_all (trees l.parts.now)
