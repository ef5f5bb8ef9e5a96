use Rattle.std.proofs.Common.{◌≡◌, drop}
use Rattle.tb_replay.specs.Slots.{small, empty_small}
use Rattle.tb_replay.specs.Playing.{plays}
use Rattle.tb_replay.proofs.replaying.plays_out.Given as goal

abbrev pub invariant-loop-i : goal.invariant-loop-i
invariant-loop-i l = plays l.batches l.entries (small l.slots.items l.marks.items l.i) (drop l.i l.moves) ≡ plays l.batches l.entries empty_small l.moves
