use Rattle.std.proofs.Common.{◌≡◌, ◌+◌, ◌<◌, ◌≤◌, ◌⊎◌, ℕ, length}
use Rattle.std.specs.Int.{bit_at}
use Rattle.tb_match.specs.Bits.{InRow, InTable, HasRowsOf}
use Rattle.tb_match.proofs.narrow.chained_word.Given as goal

abbrev pub invariant-loop-ahead : goal.invariant-loop-ahead
invariant-loop-ahead l = record {
  wide : length l.gathered ≡ 1;
  link : (k : ℕ) → k < 64 → bit_at l.ahead k ≡ 1 → (l.place < k) × (k ≤ l.last) × InTable l.table 1 l.place k;
  sound : (j : ℕ) → j ≤ l.last → InRow l.gathered 0 j → (k : ℕ) × (l.place < k) × (k ≤ l.last) × InTable l.table 1 l.place k × InTable l.table 1 k j;
  whole : HasRowsOf l.gathered l.table 1 l.last;
  done : (k j : ℕ) → l.place < k → k ≤ l.last → j ≤ l.last → InTable l.table 1 l.place k → InTable l.table 1 k j → (bit_at l.ahead k ≡ 1) ⊎ InRow l.gathered 0 j;
  count : (from : ℕ) × (l.place < from) × (from ≤ l.last + 1) × (l.steps + l.place + 1 ≤ l.initial.steps + from) × ((k : ℕ) → k < 64 → bit_at l.ahead k ≡ 1 → from ≤ k);
  more : l.initial.steps ≤ l.steps;
}

abbrev pub decreases-loop-ahead : goal.decreases-loop-ahead
decreases-loop-ahead l = l.ahead
