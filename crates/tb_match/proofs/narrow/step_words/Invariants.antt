use Rattle.std.proofs.Common.{◌≡◌, ◌<◌, ◌≤◌, ◌↔◌, ◌⊎◌, ℕ, length, get_or}
use Rattle.std.specs.Int.{bit_at}
use Rattle.tb_match.specs.Stays.{MayStay}
use Rattle.tb_match.proofs.Masks.{Onward}
use Rattle.tb_match.proofs.narrow.step_words.Given as goal

abbrev pub invariant-loop-row : goal.invariant-loop-row
invariant-loop-row l = record {
  whole : length l.table ≡ length l.initial.table;
  done : (i j : ℕ) → i < l.row → j < 64 → ((bit_at (get_or l.table i 0) j ≡ 1) ↔ ((MayStay l.stay × (bit_at (get_or l.initial.table i 0) j ≡ 1)) ⊎ Onward (get_or l.initial.table i 0) l.ends j));
  rest : (i : ℕ) → l.row ≤ i → get_or l.table i 0 ≡ get_or l.initial.table i 0;
}
