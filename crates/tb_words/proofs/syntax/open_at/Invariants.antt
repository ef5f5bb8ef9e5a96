use Rattle.std.proofs.Common.{◌≡◌, fold}
use Rattle.tb_words.specs.QueryPlaces.{signs_before, with_sign}
use Rattle.tb_words.proofs.syntax.open_at.Given as goal

abbrev pub invariant-loop-place : goal.invariant-loop-place
invariant-loop-place l = l.count ≡ fold (with_sign l.opens l.closes) 0 (signs_before l.literals l.at l.yielded)
