use Rattle.std.proofs.Common.{◌≡◌, List, ℕ, false, length, take}
use Rattle.tb_conllu.specs.FaultyLines.{line_faults}
use Rattle.tb_conllu.specs.Tested.{HoldsOf}
use Rattle.tb_conllu.proofs.Told.{AreRead}
use Rattle.tb_conllu.proofs.faulty.faulty_lines.Given as goal

abbrev pub invariant-loop-raw : goal.invariant-loop-raw
invariant-loop-raw l = (lines : List (List ℕ)) × AreRead l.bytes l.rest l.line l.came l.closed lines × (l.found.items ≡ take l.most (line_faults 0 false lines)) × HoldsOf l.tested l.rest

abbrev pub decreases-loop-raw : goal.decreases-loop-raw
decreases-loop-raw l = length l.rest
