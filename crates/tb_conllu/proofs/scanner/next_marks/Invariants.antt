use Rattle.std.proofs.Common.{◌+◌, ◌-◌, length}
use Rattle.tb_conllu.specs.Marks.{AreMarks}
use Rattle.tb_conllu.proofs.scanner.next_marks.Given as goal

abbrev pub invariant-loop-at : goal.invariant-loop-at
invariant-loop-at l = AreMarks l.bytes (l.base + 64) l.at 0

abbrev pub decreases-loop-at : goal.decreases-loop-at
decreases-loop-at l = length l.bytes - l.at
