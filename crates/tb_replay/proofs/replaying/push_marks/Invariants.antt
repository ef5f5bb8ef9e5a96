use Rattle.std.proofs.Common.{◌≡◌, ◌++◌, map, take}
use Rattle.tb_replay.specs.Playing.{first_mark}
use Rattle.tb_replay.proofs.replaying.push_marks.Given as goal

abbrev pub invariant-loop-entry : goal.invariant-loop-entry
invariant-loop-entry l = l.marks.items ≡ l.initial.marks.items ++ map first_mark (take l.entry-index l.new)
