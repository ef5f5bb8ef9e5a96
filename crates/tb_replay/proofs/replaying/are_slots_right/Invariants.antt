use Rattle.std.proofs.Common.{◌≡◌, drop}
use Rattle.tb_replay.specs.Playing.{are_slots}
use Rattle.tb_replay.proofs.replaying.are_slots_right.Given as goal

abbrev pub invariant-loop-i : goal.invariant-loop-i
invariant-loop-i l = are_slots (drop l.i l.batches) (drop l.i l.slots) ≡ are_slots l.batches l.slots
