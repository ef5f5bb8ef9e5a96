use Rattle.std.proofs.Common.{◌≡◌, drop, false}
use Rattle.tb_syntax.specs.First.{after_literal}
use Rattle.tb_syntax.proofs.spelling.literal_length.Given as goal

abbrev pub invariant-loop-i : goal.invariant-loop-i
invariant-loop-i l = after_literal l.quote l.shut (drop l.i l.text) ≡ after_literal l.quote false l.text
