use Rattle.std.proofs.Common.{◌≢◌}
use Rattle.std.specs.List.{AllWithin}
use Rattle.tb_desk.proofs.ranges.place_of.Given as goal

abbrev pub invariant-loop-at : goal.invariant-loop-at
invariant-loop-at l = AllWithin (λ asked. asked.now ≢ l.form) l.forms 0 l.at
