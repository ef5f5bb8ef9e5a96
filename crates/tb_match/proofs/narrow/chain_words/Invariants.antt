use Rattle.std.proofs.Common.{◌≡◌, ◌+◌, ◌-◌, ◌<◌, ◌≤◌, ◌↔◌, ℕ, length, get_or}
use Rattle.tb_match.specs.Bits.{InTable, triangle}
use Rattle.tb_match.proofs.Closures.{Chained}
use Rattle.tb_match.proofs.narrow.chain_words.Given as goal

abbrev pub invariant-loop-place : goal.invariant-loop-place
invariant-loop-place l = record {
  upto : l.place ≤ l.last + 1;
  whole : length l.table ≡ length l.initial.table;
  done : (i j : ℕ) → l.place ≤ i → i ≤ l.last → j ≤ l.last → (InTable l.table 1 i j ↔ Chained l.initial.table l.last i j);
  rest : (i : ℕ) → i < l.place → get_or l.table i 0 ≡ get_or l.initial.table i 0;
  more : l.initial.steps ≤ l.steps;
  bound : l.steps ≤ l.initial.steps + triangle (l.last + 1 - l.place);
}
