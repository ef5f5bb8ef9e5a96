use Rattle.std.proofs.Common.{arith}
use Rattle.tb_replay.proofs.Loops.{marks_apart}
use Rattle.tb_replay.proofs.replaying.are_marks_right.Goals as goal

pub returns-then-entries-marks : goal.returns-then-entries-marks
returns-then-entries-marks c = marks_apart c.args.entries.now c.args.marks.now (λ e. omega (arith, e))
