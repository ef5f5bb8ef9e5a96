use Rattle.std.proofs.Common.{◌≡◌, ◌+◌, ◌*◌, ◌≤◌, ℕ, length, drop, ◌↔◌, ◌⊎◌}
use Rattle.tb_match.specs.Bits.{InTable, triangle}
use Rattle.tb_match.specs.Facts.{Holds}
use Rattle.tb_match.specs.Match.{EachInTurn, AnyOf}
use Rattle.tb_match.specs.Trees.{tree, trees}
use Rattle.tb_match.specs.Weight.{AllProper, weight_of, weight_of_all}
use Rattle.tb_match.proofs.relation.+rows.Given as goal

-- a pattern is heavier than what stands in it
abbrev pub decreases-rows : goal.decreases-rows
decreases-rows l = 3 * weight_of (tree l.pat.now) + 1

abbrev pub decreases-sequence : goal.decreases-sequence
decreases-sequence l = 3 * weight_of_all (trees l.parts.now)

abbrev pub decreases-followed : goal.decreases-followed
decreases-followed l = 3 * weight_of (tree l.part.now) + 2

abbrev pub decreases-choice : goal.decreases-choice
decreases-choice l = 3 * weight_of_all (trees l.parts.now)

abbrev pub invariant-sequence-loop-part : goal.invariant-sequence-loop-part
invariant-sequence-loop-part l = record {
  wide : length l.spare ≡ l.shape.width;
  whole : length l.table.items ≡ (l.shape.last + 1) * l.shape.width;
  proper : AllProper l.truth.exprs (trees (drop l.part-index l.rest));
  forward : (i j : ℕ) → i ≤ l.shape.last → j ≤ l.shape.last → InTable l.table.items l.shape.width i j → i ≤ j;
  rows : (i j : ℕ) → i ≤ l.shape.last → j ≤ l.shape.last → (((m : ℕ) × (m ≤ l.shape.last) × InTable l.table.items l.shape.width i m × EachInTurn (Holds l.truth) (trees (drop l.part-index l.rest)) m j) ↔ EachInTurn (Holds l.truth) (trees l.parts) i j);
  more : l.fn.steps ≤ l.steps;
  bound : l.steps + weight_of_all (trees (drop l.part-index l.rest)) * triangle (l.shape.last + 1) ≤ l.fn.steps + weight_of_all (trees l.parts) * triangle (l.shape.last + 1);
}

abbrev pub invariant-choice-loop-part : goal.invariant-choice-loop-part
invariant-choice-loop-part l = record {
  wide : length l.spare ≡ l.shape.width;
  whole : length l.table.items ≡ (l.shape.last + 1) * l.shape.width;
  proper : AllProper l.truth.exprs (trees (drop l.part-index l.parts));
  rows : (i j : ℕ) → i ≤ l.shape.last → j ≤ l.shape.last → ((InTable l.table.items l.shape.width i j ⊎ AnyOf (Holds l.truth) (trees (drop l.part-index l.parts)) i j) ↔ AnyOf (Holds l.truth) (trees l.parts) i j);
  more : l.initial.steps ≤ l.steps;
  bound : l.steps + weight_of_all (trees (drop l.part-index l.parts)) * triangle (l.shape.last + 1) ≤ l.initial.steps + weight_of_all (trees l.parts) * triangle (l.shape.last + 1);
}
