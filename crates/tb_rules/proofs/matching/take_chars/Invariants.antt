use Rattle.std.proofs.Common.{length, drop}
use Rattle.std.specs.Str.{chars}
use Rattle.tb_rules.proofs.Compare.{Awaits}
use Rattle.tb_rules.proofs.matching.take_chars.Given as goal

abbrev pub invariant-loop-c : goal.invariant-loop-c
invariant-loop-c l = Awaits l.fn.expected.rest.now l.fn.expected.begun l.fn.expected.gap (chars l.text) l.now.rest.now l.now.begun l.now.gap (drop (length l.yielded) (chars l.text))
