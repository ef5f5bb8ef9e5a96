use Rattle.std.proofs.Common.{◌≡◌, ◌≤◌, max, vec_len}
use Rattle.tb_rules.proofs.accepted.make_places.Given as goal

abbrev pub invariant-loop : goal.invariant-loop
invariant-loop g l = (vec_len l.slots ≡ l.counter) × (vec_len l.fn.slots ≤ l.counter) × (l.counter ≤ max 1024 (vec_len l.fn.slots))
