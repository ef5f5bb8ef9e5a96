use Rattle.std.proofs.Common.{◌≡◌, map, take}
use Rattle.tb_core.proofs.sameness.same_texts.Given as goal

abbrev pub invariant-loop-i : goal.invariant-loop-i
invariant-loop-i g l = map g.T.Text.bytes (take l.i l.one) ≡ map g.U.Text.bytes (take l.i l.other)
