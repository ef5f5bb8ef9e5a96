use Rattle.std.proofs.Common.{◌≡◌, ◌++◌, map, drop}
use Rattle.tb_tables.specs.Values.{revision_of}
use Rattle.tb_verify.specs.Course.{rows_reported}
use Rattle.tb_verify.proofs.entry.reported_revisions.Given as goal

abbrev pub invariant-loop-i : goal.invariant-loop-i
invariant-loop-i l = l.revisions.items ++ rows_reported (map revision_of (drop l.i l.rows)) (drop l.i l.blocks) ≡ rows_reported (map revision_of l.rows) l.blocks
