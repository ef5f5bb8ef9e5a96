use Rattle.std.proofs.Common.{arith}
use Rattle.tb_replay.proofs.Loops.{slots_apart}
use Rattle.tb_replay.proofs.replaying.are_slots_right.Goals as goal

pub returns-then-batches-slots : goal.returns-then-batches-slots
returns-then-batches-slots c = slots_apart c.args.batches.now c.args.slots.now (λ e. omega (arith, e))
