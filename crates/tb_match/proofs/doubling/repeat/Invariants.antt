use Rattle.std.proofs.Common.{◌≡◌, ◌+◌, ◌*◌, ◌≤◌, ℕ, length, ◌↔◌, IsTrue}
use Rattle.tb_match.specs.Bits.{IsClosed, IsForward, HasLinksOf, Repeated, triangle}
use Rattle.tb_match.proofs.doubling.repeat.Given as goal

abbrev pub invariant-loop-left : goal.invariant-loop-left
invariant-loop-left l = record {
  wide : length l.spare ≡ l.shape.width;
  long : length l.links ≡ length l.initial.links;
  whole : length l.table ≡ length l.initial.table;
  rows : (i j : ℕ) → i ≤ l.shape.last → j ≤ l.shape.last → (Repeated l.links l.table l.shape.width l.shape.last l.left i j ↔ Repeated l.fn.links l.fn.table l.shape.width l.shape.last l.times i j);
  onward : IsForward l.links l.shape.width l.shape.last;
  chained : IsTrue l.double → IsTrue l.closed → IsClosed l.links l.shape.width 0 l.shape.last;
  closed : IsTrue l.closed → IsClosed l.table l.shape.width 0 l.shape.last;
  linked : IsTrue l.closed → HasLinksOf l.table l.links l.shape.width l.shape.last;
  forward : IsTrue l.closed → IsForward l.table l.shape.width l.shape.last;
  more : l.initial.steps ≤ l.steps;
  bound : l.steps + l.left * triangle (l.shape.last + 1) ≤ l.initial.steps + l.times * triangle (l.shape.last + 1);
}

abbrev pub decreases-loop-left : goal.decreases-loop-left
decreases-loop-left l = l.left
