use Rattle.std.proofs.Common.{length}
use denote.Text.{Utf8}
use denote.Shadow.{shadow}
use Rattle.std.specs.Str.{chars}
use Rattle.tb_rules.proofs.Compare.{Awaits}
use Rattle.tb_rules.proofs.matching.take_spaced.Given as goal

abbrev pub invariant-loop-piece : goal.invariant-loop-piece
invariant-loop-piece l = shadow (Utf8 l.left) × Awaits l.fn.expected.rest.now l.fn.expected.begun l.fn.expected.gap (chars l.fn.text) l.now.rest.now l.now.begun l.now.gap (chars l.left)

abbrev pub decreases-loop-piece : goal.decreases-loop-piece
decreases-loop-piece l = length l.left
