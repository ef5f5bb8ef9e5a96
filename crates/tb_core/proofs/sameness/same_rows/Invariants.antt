use Rattle.std.proofs.Common.{◌≡◌, take}
use Rattle.tb_core.proofs.sameness.same_rows.Given as goal

abbrev pub invariant-loop-i : goal.invariant-loop-i
invariant-loop-i g l = take l.i l.one ≡ take l.i l.other
