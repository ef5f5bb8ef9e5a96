use Rattle.std.proofs.Common.{◌≡◌, ◌≢◌, ◌-◌, ◌≤◌, ◌⊎◌, length, slice_index}
use Rattle.tb_rules.specs.Depths.{IsDepth, AreDepths}
use Rattle.tb_rules.proofs.tree.note_depths.Given as goal

abbrev pub invariant-loop-left : goal.invariant-loop-left
invariant-loop-left l = record {
  known : AreDepths l.heads l.depths;
  depth : IsDepth l.heads l.at l.left;
  noted : ((l.at ≡ l.word) × (l.left ≡ l.fn.depth)) ⊎ (l.word ≤ length l.heads → slice_index l.depths (l.word - 1) ≢ 0);
}
