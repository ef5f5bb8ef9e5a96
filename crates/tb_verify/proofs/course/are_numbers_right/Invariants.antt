use Rattle.std.proofs.Common.{◌≡◌, ◌+◌, map, drop}
use Rattle.tb_tables.specs.Values.{revision_of}
use Rattle.tb_verify.specs.Course.{are_numbered}
use Rattle.tb_verify.proofs.course.are_numbers_right.Given as goal

abbrev pub invariant-loop-i : goal.invariant-loop-i
invariant-loop-i l = are_numbered l.number (l.i + 1) (map revision_of (drop l.i l.rows)) ≡ are_numbered l.number 1 (map revision_of l.rows)
