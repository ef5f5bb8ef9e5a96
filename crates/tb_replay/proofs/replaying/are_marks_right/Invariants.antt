use Rattle.std.proofs.Common.{◌≡◌, drop}
use Rattle.tb_replay.specs.Playing.{are_marks}
use Rattle.tb_replay.proofs.replaying.are_marks_right.Given as goal

abbrev pub invariant-loop-i : goal.invariant-loop-i
invariant-loop-i l = are_marks (drop l.i l.entries) (drop l.i l.marks) ≡ are_marks l.entries l.marks
