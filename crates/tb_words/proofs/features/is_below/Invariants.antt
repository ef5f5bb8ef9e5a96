use Rattle.std.proofs.Common.{◌≡◌, drop}
use Rattle.tb_fields.specs.Rising.{is_below}
use Rattle.tb_words.proofs.features.is_below.Given as goal

abbrev pub invariant-loop-i : goal.invariant-loop-i
invariant-loop-i l = is_below (drop l.i l.first) (drop l.i l.second) ≡ is_below l.first l.second
