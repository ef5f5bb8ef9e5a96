use Rattle.std.proofs.Common.{◌≡◌, ◌-◌, map, drop}
use Rattle.tb_tables.specs.Values.{revision_of}
use Rattle.tb_verify.specs.Course.{are_new, text_in}
use Rattle.tb_verify.proofs.course.are_all_new.Given as goal

abbrev pub invariant-loop-i : goal.invariant-loop-i
invariant-loop-i l = are_new (map text_in (map revision_of (drop (l.i - 1) l.rows))) ≡ are_new (map text_in (map revision_of l.rows))
