use Rattle.std.proofs.Common.{map}
use Rattle.std.specs.String.{string_bytes}
use Rattle.tb_syntax.proofs.Sayings.{SaidTo}
use Rattle.tb_syntax.proofs.unquoting.unquote_all.Given as goal

abbrev pub invariant-loop-i : goal.invariant-loop-i
invariant-loop-i l = SaidTo l.text l.lexemes l.spans l.i (map string_bytes l.literals.items)
