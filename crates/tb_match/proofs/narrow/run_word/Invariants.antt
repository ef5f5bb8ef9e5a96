use Rattle.std.proofs.Common.{◌≡◌, ◌-◌, ◌^◌, ◌<◌, ◌≤◌, ◌↔◌, ◌⊎◌, ℕ}
use Rattle.std.specs.Int.{bit_at}
use Rattle.tb_match.proofs.Masks.{Onward, Reach}
use Rattle.tb_match.proofs.narrow.run_word.Given as goal

abbrev pub invariant-loop-next : goal.invariant-loop-next
invariant-loop-next l = record {
  kept : (j : ℕ) → j < 64 → bit_at l.row j ≡ 1 → bit_at l.all j ≡ 1;
  sound : (j : ℕ) → j < 64 → bit_at l.all j ≡ 1 → Reach l.row l.ends j;
  longer : (j : ℕ) → j < 64 → ((bit_at l.next j ≡ 1) ↔ ((bit_at l.all j ≡ 1) ⊎ Onward l.all l.ends j));
  grown : l.all ≤ l.next;
}

abbrev pub decreases-loop-next : goal.decreases-loop-next
decreases-loop-next l = 2 ^ 64 - l.all
