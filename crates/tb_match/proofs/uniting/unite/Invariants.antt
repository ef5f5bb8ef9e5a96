use Rattle.std.proofs.Common.{◌≡◌, ◌<◌, ◌≤◌, ◌-◌, ℕ, length, bit_or, get_or}
use Rattle.tb_match.proofs.uniting.unite.Given as goal

abbrev pub invariant-loop-to : goal.invariant-loop-to
invariant-loop-to l = record {
  within : l.at ≤ length l.to;
  done : (k : ℕ) → k < l.at → get_or l.to k 0 ≡ bit_or (get_or l.initial.to k 0) (get_or l.from k 0);
  rest : (k : ℕ) → l.at ≤ k → get_or l.to k 0 ≡ get_or l.initial.to k 0;
}

abbrev pub decreases-loop-to : goal.decreases-loop-to
decreases-loop-to l = length l.to - l.at

abbrev pub invariant-loop-k : goal.invariant-loop-k
invariant-loop-k l = record {
  done : (k : ℕ) → k < l.k → get_or l.to k 0 ≡ bit_or (get_or l.fn.to k 0) (get_or l.from k 0);
  rest : (k : ℕ) → l.k ≤ k → get_or l.to k 0 ≡ get_or l.fn.to k 0;
}
