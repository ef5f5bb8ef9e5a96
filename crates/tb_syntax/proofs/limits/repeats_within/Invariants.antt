use Rattle.std.proofs.Common.{◌≡◌, drop}
use Rattle.tb_syntax.specs.declared.limits.Bounds.TheVariants.{Apart}
use Rattle.tb_syntax.proofs.Repeating.{through}
use Rattle.tb_syntax.proofs.limits.repeats_within.Given as goal

abbrev pub invariant-loop-i : goal.invariant-loop-i
invariant-loop-i l = through l.most Apart l.lexemes ≡ through l.most l.bounds (drop l.i l.lexemes)
